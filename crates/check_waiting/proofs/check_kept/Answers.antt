-- `check_kept`: the length, the fields of the header, and the sender's row.
use Rattle.rows.proofs.Prelude.{◌≡◌, ap, ◌∙◌, List, ℕ, ◌≤◌, length}
use Rattle.rules.specs.Record.{header_of, sender}
use Rattle.rules.specs.Checks.{refuse_if, verdict}
use Rattle.rules.proofs.CheckLaws.{stop, skip, last, stop_all, skip_all, not_applied}
use Rattle.rules.proofs.Answers.{long_enough}
use Rattle.check_header.specs.Fields.{field_checks}
use Rattle.check_waiting.proofs.Laws.{has_fields, over, row_shown}
use Rattle.check_waiting.proofs.check_kept.Goals as goal

pub returns-in_default-c : goal.returns-in_default-c
returns-in_default-c c =
    let rec_of : List ℕ = c.args.rec.now in
    let four : 4 ≤ length rec_of = long_enough rec_of (not_applied _ _ c.check_length-c.ensures c.in-Pass.is) in
    let headed : c.check_fields-c.result ≡ verdict (field_checks (header_of rec_of)) =
    c.check_fields-c.ensures (header_of rec_of)
    (has_fields rec_of _ c.be16-word.ensures four (c.type_inv.rec 2).fits (c.type_inv.rec 3).fits
    _ c.be16.ensures _ c.resource_row-e.ensures) in
    skip _ _ _ c.check_length-c.ensures c.in-Pass.is
    (stop_all (field_checks (header_of rec_of)) _ _ headed c.in_default-c.is)

pub returns : goal.returns
returns c =
    let rec_of : List ℕ = c.args.rec.now in
    let four : 4 ≤ length rec_of = long_enough rec_of (not_applied _ _ c.check_length-c.ensures c.in-Pass.is) in
    let headed : c.check_fields-c.result ≡ verdict (field_checks (header_of rec_of)) =
    c.check_fields-c.ensures (header_of rec_of)
    (has_fields rec_of _ c.be16-word.ensures four (c.type_inv.rec 2).fits (c.type_inv.rec 3).fits
    _ c.be16.ensures _ c.resource_row-e.ensures) in
    let r = rec_of in
    let word = c.be16-word.ensures in
    skip _ _ _ c.check_length-c.ensures c.in-Pass.is
    (skip_all (field_checks (header_of r)) _ headed c.in-Pass-c.is
    (last 7 _
    (c.check_credential.ensures (sender r) (over r _ word four (c.type_inv.rec 2).fits (c.type_inv.rec 3).fits)
    ∙ ap (refuse_if 7) (row_shown r _ word four (c.type_inv.rec 2).fits (c.type_inv.rec 3).fits _ _ c.index_near.ensures))))

pub returns-in_default : goal.returns-in_default
returns-in_default c = stop _ _ _ _ c.check_length-c.ensures c.in_default.is

pub slice_bounds-number-end : goal.slice_bounds-number-end
slice_bounds-number-end c =
    let rec_of : List ℕ = c.args.rec.now in
    let four : 4 ≤ length rec_of = long_enough rec_of (not_applied _ _ c.check_length-c.ensures c.in-Pass.is) in
    four
