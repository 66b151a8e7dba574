pub mod Departures
pub mod Turns
pub mod DeparturesLaws
