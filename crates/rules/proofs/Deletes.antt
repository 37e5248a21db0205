-- What a DELETE of rows asks for, and what a permitted one leaves and reports. No other record reports places.
-- For a record at any clock, with any buffer and any default lists.
use Rattle.rows.proofs.Prelude.{◌≡◌, refl, sym, ap, ◌∙◌, true, false, List, [], ◌∷◌, ℕ, eqb, eqb-true, not-false, contradiction}
use Rattle.rows.proofs.Prelude.{and_left, and_right}
use Rattle.rows.specs.Rows.{Row, some, without}
use Rattle.rules.specs.declared.Tables.{Tables}
use Rattle.rules.specs.declared.Table.{Table}
use Rattle.rules.specs.declared.Table.TheVariants.{Creds, Aces}
use Rattle.rules.specs.declared.Action.{Action}
use Rattle.rules.specs.declared.Action.TheVariants.{Remove}
use Rattle.rules.specs.declared.Key.{Key}
use Rattle.rules.specs.declared.Key.TheVariants.{All, Number, Subject}
use Rattle.rules.specs.Keys.{goes}
use Rattle.rules.specs.Directory.{entry_of, cred, acl2}
use Rattle.rules.specs.Record.{Request, verb, resource, body}
use Rattle.rules.specs.Tables.{rows, with_rows, sound}
use Rattle.rules.specs.Defaults.{Defaults}
use Rattle.rules.specs.Action.{delete_action, security_action, action, action_of}
use Rattle.rules.specs.StoreRange.{no_range, gap_of, store_range_of}
use Rattle.rules.specs.Promises.Theorems.{deletes}
use Rattle.rules.specs.Permission.{permission}
use Rattle.rules.specs.Checks.{checks, is_malformed, missing}
use Rattle.rules.specs.Outcome.{Outcome, effect_by, response_to, tables_after}
use Rattle.rules.proofs.Answers.{passed}
use Rattle.rules.proofs.BodyLaws.{delete_of, Removal, removes, nothing, removal, action_asked}
use Rattle.rules.proofs.Refusals.{permitted_passes, permitted_outcome}

-- ---- what it asks for

-- the verb and the resource of such a record
pub delete_verb : (k : Table) (r : List ℕ) → deletes k r ≡ true → verb r ≡ 3
unfolding deletes
delete_verb Creds r h = eqb-true (verb r) 3 (and_left (eqb (verb r) 3) (eqb (resource r) cred) h)
delete_verb Aces r h = eqb-true (verb r) 3 (and_left (eqb (verb r) 3) (eqb (resource r) acl2) h)

pub delete_is : (k : Table) (r : List ℕ) → deletes k r ≡ true → action r ≡ delete_of k (body r)
unfolding deletes entry_of action_of security_action delete_action
delete_is Creds r h = rw (delete_verb Creds r h, eqb-true (resource r) cred (and_right (eqb (verb r) 3) (eqb (resource r) cred) h))
delete_is Aces r h = rw (delete_verb Aces r h, eqb-true (resource r) acl2 (and_right (eqb (verb r) 3) (eqb (resource r) acl2) h))

-- where the body is not malformed, rows of that table go
removing : {k : Table} {b : List ℕ} {a : Action} → Removal k b a → is_malformed a ≡ false → (key : Key) × (a ≡ Remove k key)
removing (removes key h) m = (key, refl)
removing nothing m = contradiction refl m

-- ---- a permitted one

none_held : (b : List ℕ) (ws : List Row) → some (goes All b) ws ≡ false → ws ≡ []
unfolding some
none_held b [] h = refl
none_held b (w ∷ ws) h = contradiction refl h

-- where the key picks no row, there is none
found : (k : Table) (key : Key) (t : Tables) (b : List ℕ) → missing t b (Remove k key) ≡ false → some (goes key b) (rows k t) ≡ false → rows k t ≡ []
found k All t b m s = none_held b (rows k t) s
found k Number t b m s = contradiction refl (rw s at m)
found k Subject t b m s = contradiction refl (rw s at m)

module _ (d : Defaults) (t : Tables) (q : Request) (k : Table) where
  -- the rows that go are those that the key picks
  pub record Deleted : Type 0 where
    pub key : Key
    pub is : action q.bytes ≡ Remove k key
    pub sound : sound t ≡ true
    pub none : some (goes key (body q.bytes)) (rows k t) ≡ false → rows k t ≡ []
    pub tables : tables_after d t q ≡ with_rows k t (without (goes key (body q.bytes)) (rows k t))
    pub store : (response_to d t q).store ≡ gap_of (goes key (body q.bytes)) (rows k t)

  pub deleted : deletes k q.bytes ≡ true → (response_to d t q).answer ≡ 0 → Deleted
  deleted h z =
      let r = q.bytes in
      let p = permission q.clock t r in
      let e = permitted_passes d t q z in
      let o = permitted_outcome d t q z in
      let i = delete_is k r h in
      let m = removing (removal k (body r)) (ap is_malformed (sym i) ∙ passed (checks t p q) e 10) in
      let a : action r ≡ Remove k m.0 = i ∙ m.1 in
      record {
        key = m.0;
        is = a;
        sound = not-false (sound t) (passed (checks t p q) e 1);
        none = found k m.0 t (body r) (ap (missing t (body r)) (sym a) ∙ passed (checks t p q) e 13);
        tables = ap (λ (x : Outcome). x.tables) o ∙ ap (effect_by d t q) a;
        store = ap (λ (x : Outcome). x.response.store) o ∙ ap (store_range_of t (body r)) a;
      }

-- ---- any other

-- the action of a record that is no DELETE of a table's rows has no places
pub quiet : (t : Tables) (r : List ℕ) → ((k : Table) → deletes k r ≡ false) → store_range_of t (body r) (action r) ≡ no_range
quiet t r other = (action_asked r).1 other _
