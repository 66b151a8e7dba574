-- What the definitions come to: some lines written out.
use Rattle.std.specs.Prelude.{◌≡◌, refl, true, false, None, Some}
use Rattle.kinds.specs.Refusals.{refusal}
use Rattle.words.specs.Bytes.{bytes}
use Rattle.printed.specs.DecimalLaws.{decimal_is}
use Rattle.report.specs.Words.{words_of, refusal_line}
use Rattle.report.specs.Lines.{label_line, entry_line, numbered_run, numbered_stop, written_line, more_line}
use Rattle.report.specs.Examples.{codes, hub, moor, quay}
use Rattle.kinds.specs.declared.Reason.TheVariants as reason

at_a_line : refusal_line (refusal reason.StopUnknown 7) ≡ bytes "refused 5 at line 7 of the timetable: no stop has this code\n"
unfolding refusal_line words_of
at_a_line = simp decimal_is refl

at_no_line : refusal_line (refusal reason.OverLimit 0) ≡ bytes "refused 8: there are more stops or runs, or a longer text, than the limits allow\n"
unfolding refusal_line words_of
at_no_line = simp decimal_is refl

at_a_label : refusal_line (refusal reason.Unsupported 1) ≡ bytes "refused 19 at label 1: the tables hold a label that the timetable does not support\n"
unfolding refusal_line words_of
at_a_label = simp decimal_is refl

at_a_run : refusal_line (record { reason = reason.Gap; place = 4; stop = 2 }) ≡
    bytes "refused 20 at run 4, stop 2: the tables miss a journey that begins with this run and ends at this stop\n"
unfolding refusal_line words_of
at_a_run = simp decimal_is refl

a_label : label_line codes 1 hub moor 505 560 (Some quay) ≡ bytes "label 1: HUB to MOOR, leaves 505, arrives 560, change at QUAY-S\n"
unfolding label_line
a_label = simp decimal_is refl

a_label_of_a_run : label_line codes 0 moor hub 480 500 None ≡ bytes "label 0: MOOR to HUB, leaves 480, arrives 500\n"
unfolding label_line
a_label_of_a_run = simp decimal_is refl

a_bad_label : entry_line 0 true 1 9 480 500 None ≡ bytes "label 0: an out-label of stop 1, hub 9, leaves 480, arrives 500, no pivot\n"
unfolding entry_line
a_bad_label = simp decimal_is refl

another : entry_line 5 false 3 2 500 480 (Some 7) ≡ bytes "label 5: an in-label of stop 3, hub 2, leaves 500, arrives 480, pivot 7\n"
unfolding entry_line
another = simp decimal_is refl

a_run : numbered_run codes 0 moor hub 480 500 11 ≡ bytes "run 0: MOOR HUB 480 500 11\n"
unfolding numbered_run
a_run = simp decimal_is refl

a_stop : numbered_stop codes 1 moor ≡ bytes "stop 1: MOOR\n"
unfolding numbered_stop
a_stop = simp decimal_is refl

a_build : written_line 4 6 6 54 ≡ bytes "written: 4 stops, 6 runs, 6 labels, 54 bytes\n"
unfolding written_line
a_build = simp decimal_is refl

a_long_file : more_line (bytes "day.txt") 1048576 ≡ bytes "day.txt has more than 1048576 bytes\n"
unfolding more_line
a_long_file = simp decimal_is refl
