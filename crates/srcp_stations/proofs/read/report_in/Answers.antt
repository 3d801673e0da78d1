use Rattle.std.proofs.Common.{[], ◌∷◌, arith}
use Rattle.std.specs.Fmt.{decimal}
use Rattle.srcp_stations.specs.Said.{bits_word, drive_code, slot_word}
use Rattle.srcp_stations.proofs.ReadLaws.{slot_no_space, small_code, small_slot}
use Rattle.srcp_stations.proofs.read.report_in.Goals as goal

pub returns : goal.returns
returns c = λ report ok is.
    let few = small_slot report.slot ok.slot in
    let code = small_code report.drive ok.drive in
    let one =
    c.next_number-cab.ensures report.cab
    (slot_word report.slot ∷ decimal (drive_code report.drive) ∷ bits_word report.functions ∷ [])
    (omega (arith, ok.cab)) is in
    let two =
    c.next_word.ensures (slot_word report.slot) (decimal (drive_code report.drive) ∷ bits_word report.functions ∷ [])
    (slot_no_space report.slot few) one.1 in
    let three = c.next_number-code.ensures (drive_code report.drive) (bits_word report.functions ∷ []) (omega (arith, code)) two.1 in
    let slot = c.slot_in.ensures report.slot few two.0 in
    let drive = c.drive_of.ensures report.drive ok.drive three.0 in
    let functions = c.bits_in.ensures report.functions (omega (arith, ok.functions)) three.1 in
    λ i. record { cab = one.0 i; slot = slot i; drive = drive i; functions = functions i }
