-- Theorem: the body of a record for an application resource decides nothing, as long as the record has a length that is allowed.
-- So a link's own record, which has none, speaks for every record with its header (U9).
use Rattle.rows.proofs.Prelude.{◌≡◌, sym, ap, ◌∙◌, false, and-false, List, [], ◌∷◌, ℕ, ◌≤◌, arith, length, le-leb, le-ltb}
use Rattle.rules.specs.declared.Tables.{Tables}
use Rattle.rules.specs.Bits.{bit, bits}
use Rattle.rules.specs.Directory.{is_security}
use Rattle.rules.specs.Record.{header_of, received, resource, sender}
use Rattle.rules.specs.Defaults.{Defaults}
use Rattle.rules.specs.Permission.{permission, permission_of}
use Rattle.rules.specs.Action.{action_of}
use Rattle.rules.specs.Reading.{reads}
use Rattle.rules.specs.Checks.{checks, verdict, number_of, bad_length, no_verb, zero_bit_set, mismatch}
use Rattle.rules.specs.Checks.{unknown_resource, no_credential, no_endpoint, not_permitted, not_offered}
use Rattle.rules.specs.Outcome.{response_to}
use Rattle.rules.proofs.Answers.{no_reply_fits}
use Rattle.rules.proofs.Refusals.{answer_is}

module _ (h i j k : ℕ) (b : List ℕ) (few : length b ≤ 252) where
  abbrev whole : List ℕ
  whole = h ∷ i ∷ j ∷ k ∷ b

  abbrev bare : List ℕ
  bare = h ∷ i ∷ j ∷ k ∷ []

  -- the header is the same
  sender_same : sender whole ≡ sender bare
  unfolding sender bits bit
  sender_same = rw (le-leb 4 (length whole) (omega arith))

  -- and so is what is asked for
  module _ (plain : is_security (resource bare) ≡ false) where
    unread : (reads (header_of whole) ≡ false) × (reads (header_of bare) ≡ false)
    unfolding reads bits bit
    unread = (rw (plain, and-false), rw (plain, and-false))

    pub any_body : (d : Defaults) (t : Tables) (clock capacity : ℕ)
        → (response_to d t (received clock whole capacity)).answer ≡ (response_to d t (received clock bare capacity)).answer
    unfolding bad_length no_verb zero_bit_set mismatch unknown_resource no_credential no_endpoint not_permitted permission_of not_offered action_of bits bit
    any_body d t clock capacity =
        let e : verdict (checks t (permission clock t whole) (received clock whole capacity))
        ≡ verdict (checks t (permission clock t bare) (received clock bare capacity)) =
        rw (
          no_reply_fits t (received clock whole capacity) unread.0,
          no_reply_fits t (received clock bare capacity) unread.1,
          le-ltb (length whole) 4 (omega arith),
          le-ltb 256 (length whole) (omega arith),
          sender_same,
          plain,
        ) in
        answer_is d t (received clock whole capacity) ∙ ap number_of e ∙ sym (answer_is d t (received clock bare capacity))
