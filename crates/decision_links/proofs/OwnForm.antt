-- A link's own record passes the checks 1 to 7 where the record that asks does: it has the same sender and verb, and a known number.
-- So it is permitted exactly where its caller passes the checks after them, and the links by a caller are those of the record.
use Rattle.rows.proofs.Prelude.{◌≡◌, refl, sym, ap, ap₂, ◌∙◌, true, false, not, ◌&&◌, ◌||◌, cond, List, [], ℕ, ◌<◌, arith, length, eqb, ltb, eqb-true, not-false}
use lib.Count.{ones}
use Rattle.rules.specs.declared.Tables.{Tables}
use Rattle.rules.specs.declared.Header.{Header}
use Rattle.rules.specs.declared.Check.TheVariants.{Pass}
use Rattle.rules.specs.Bits.{be16}
use Rattle.rules.specs.Directory.{known}
use Rattle.rules.specs.Record.{header_of}
use Rattle.rules.specs.Permission.{sender_row}
use Rattle.rules.specs.Links.{asks_links, own_record, permits, link_set, links_of}
use Rattle.rules.specs.Checks.{verdict, is_pass, bad_length, no_verb, zero_bit_set, mismatch, unknown_resource, no_row, no_credential}
use Rattle.rules.specs.Promises.Groups.{form_checks}
use Rattle.rows.specs.Rows.{Row}
use Rattle.rules.specs.Promises.Callers.{caller_of}
use Rattle.rules.specs.Promises.Decision.{later_checks}
use Rattle.rules.proofs.CallerLaws.{caller_row_lem}
use Rattle.rules.proofs.CheckLaws.{skip_at, skip_all}
use Rattle.rules.proofs.Answers.{passed, long_enough}
use Rattle.rules.proofs.LinkLaws.{own}
use Rattle.decision.proofs.Laws.{check_later}
use Rattle.decision_links.specs.Linked.{link_header, linked, link_permitted, permitted_set, permitted_links}
use Rattle.decision_links.proofs.Halves.{link_known, set_same}
use Rattle.rules.specs.Tables.{rows}
use Rattle.rules.specs.declared.Table.TheVariants.{Creds}

none : Pass ≡ verdict []
unfolding verdict
none = refl

short : (r : List ℕ) (n : ℕ) → bad_length (length (own_record r n)) ≡ false
unfolding bad_length own_record be16
short r n = refl

module _ (t : Tables) (r : List ℕ) (p : verdict (form_checks t r) ≡ Pass) where
  own_passes : (n : ℕ) → n < 64 → known n ≡ true → verdict (form_checks t (own_record r n)) ≡ Pass
  unfolding no_verb zero_bit_set mismatch unknown_resource no_credential
  own_passes n h k =
      let by : (m : ℕ) → _ = passed (form_checks t r) p in
      let o = own r n (long_enough r (by 2)) h in
      sym (skip_at 1 _ _ (by 1) (skip_at 2 _ _ (short r n)
      (skip_at 3 _ _ (ap (ltb 4) o.verb_same ∙ by 3)
      (skip_at 4 _ _ (ap (λ (z : ℕ). not (eqb z 0)) o.zeros)
      (skip_at 5 _ _ (ap₂ (λ (c k : ℕ). (eqb c 0 && not (eqb k 0)) || (not (eqb c 0) && eqb k 0)) o.connection_same o.credential_same ∙ by 5)
      (skip_at 6 _ _ (ap (λ (m : ℕ). not (known m)) o.resource_is ∙ ap not k)
      (skip_at 7 _ _ (ap (no_row (rows Creds t)) o.sender_same ∙ by 7) none)))))))

  -- its header is that of the record that asks, with the link's number
  own_header : (n : ℕ) → n < 64 → header_of (own_record r n) ≡ link_header (header_of r) n
  unfolding zero_bit_set
  own_header n h =
      let by : (m : ℕ) → _ = passed (form_checks t r) p in
      let o = own r n (long_enough r (by 2)) h in
      let z = eqb-true (header_of r).zeros 0 (not-false _ (by 4)) in
      rw (o.verb_same, o.connection_same, o.resource_is, o.zeros, z, o.credential_same, o.sender_same)

  grants_permits : (clock n : ℕ) → n < 64 → known n ≡ true → link_permitted clock t (caller_of (rows Creds t) r) n ≡ permits clock t (own_record r n)
  unfolding link_permitted permits own_record be16
  grants_permits clock n h k =
      ap is_pass (check_later clock t (linked (caller_of (rows Creds t) r) n) [] 0
      ∙ ap (λ (w : Row). verdict (later_checks clock t w (link_header (header_of r) n) [] 0)) (caller_row_lem t r)
      ∙ ap (λ (g : Header). verdict (later_checks clock t (sender_row t g.sender) g [] 0)) (sym (own_header n h))
      ∙ skip_all (form_checks t (own_record r n)) _ refl (own_passes n h k) refl)

  pub links_are : (clock : ℕ) → permitted_links clock t (caller_of (rows Creds t) r) ≡ links_of clock t r
  unfolding permitted_set link_set
  links_are clock =
      ap (λ (m : ℕ). let set = cond (asks_links (header_of r)) m 0 in record { set = set; size = ones set })
      (set_same _ _ (λ n low high. grants_permits clock n (omega arith) (link_known n low high)))
