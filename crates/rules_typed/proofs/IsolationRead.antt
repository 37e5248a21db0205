-- Theorem, demand 3 with the typed rules as the book: of a run, what the others get is what the book tells them, written.
-- The premise is read in the book's tables, and holds in these exactly where it holds in the bytes.
use Rattle.rows.proofs.Prelude.{◌≡◌, refl, sym, ap, ap₂, ◌∙◌, Bool, true, ◌&&◌, List, [], ◌∷◌, map, eqb, bool_cases, cond_cases, contradiction, false, ◌||◌, ℕ}
use Rattle.rows.proofs.Prelude.{or_true_right}
use Rattle.rows.specs.Rows.{Row}
use Rattle.rules.specs.declared.Tables.{Tables as ByteTables}
use Rattle.rules.specs.declared.Table.TheVariants.{Aces}
use Rattle.rules.specs.declared.Sender.{Sender}
use Rattle.rules.specs.Record.{Request as ByteRequest, sender}
use Rattle.rules.specs.Bodies.{ace_kind, ace_subject, ace_connection, ace_storable, subject_storable}
use Rattle.rules.specs.Tables.{head_of, rows, sound as soundBytes}
use Rattle.rules.specs.Defaults.{Defaults}
use Rattle.rules.specs.Permission.{sender_row, subject_is, connection_of as connectionBit, resource_fits as resourceFitsBytes, is_owner as isOwnerBytes}
use Rattle.rules.specs.Permission.{has as hasBytes}
use Rattle.rules.specs.Outcome.{response_to, tables_after}
use Rattle.rules.specs.Run.{replies, final, Along, kept, kept_of}
use Rattle.rules.specs.Isolation.{Harmless as HarmlessBytes, names_owner as namesOwnerBytes, may_fit as mayFitBytes, row_alters as rowAltersBytes}
use Rattle.rules.specs.Isolation.{may_alter as mayAlterBytes, Premise as PremiseBytes, is_others as isOthersBytes}
use Rattle.rules.proofs.BitLaws.{bits_small}
use Rattle.rules.proofs.Isolated.{isolation}
use Rattle.rules_typed.specs.Lists.{Maybe, any, when}
use Rattle.rules_typed.specs.Types.{Credential, Tables, SecurityResource, Doxm, Pstat, Cred, Acl2, Roles, Security, Record}
use Rattle.rules_typed.specs.Permission.{credential_of, caller_of, resource_fits, is_owner, has}
use Rattle.rules_typed.specs.Isolation.{names_owner, may_fit, row_alters, may_alter, Harmless, Premise, is_others}
use Rattle.rules_typed.specs.Reading.{subject_of, access_of, tables_of, read_tables, read_record, read_fresh}
use Rattle.rules_typed.specs.Outcome.{respond, next}
use Rattle.rules_typed.specs.Struct.{Given, DefaultBytes, AllBytes, IsStruct}
use Rattle.rules_typed.specs.Writing.{written}
use Rattle.rules_typed.proofs.ListLaws.{any_read}
use Rattle.rules_typed.proofs.ByteLaws.{Good}
use Rattle.rules_typed.proofs.PermissionRead.{Reads, aces_good, own_reads, by, uuid_read, connection_read, ace_subject_lem, is_owner_read, owned_read}
use Rattle.rules_typed.proofs.ChecksRead.{connection_one}
use Rattle.rules_typed.proofs.Whole.{replies_written, struct_kept, next_read}
use Rattle.rules_typed.specs.Directory.{security_number, security_resources}
use Rattle.rules.specs.Directory.{entry_of, resource_of as byteResource, some_security}
use Rattle.rules.specs.declared.Resource.{Resource as ByteResource}
use Rattle.rules_typed.proofs.DirectoryRead.{entry_read}
use Rattle.rules_typed.proofs.HeaderRead.{sender_read}
use Rattle.rules_typed.proofs.SoundExact.{read_is}

-- ---- the premise

fit_read : (s : Sender) (w : Row) (m : Maybe Credential) → Reads w m → (a : Row) → ace_storable a ≡ true
    → may_fit (by 0 s m) (subject_of a) ≡ mayFitBytes w (connectionBit s) a
unfolding may_fit mayFitBytes subject_is subject_of subject_storable
fit_read s w m r a h =
    let k = ace_subject_lem a h in
    bool_cases (eqb (ace_kind a) 0) (λ e. rw e (uuid_read 0 s (ace_subject a) w m r))
    (λ e. bool_cases (eqb (ace_kind a) 1) (λ f. rw (e, f) (connection_one s))
    (λ f. bool_cases (eqb (ace_kind a) 2) (λ g. rw (e, f, g) (connection_read (ace_connection a) s (bits_small a 223 1)))
    (λ g. contradiction (rw (e, f, g) at k) refl)))

-- a test of the security resources, from the first on and from the last
turned : (a b c d e : Bool) → (a || (b || (c || (d || (e || false))))) ≡ (e || (d || (c || (b || (a || false)))))
turned true b c d e = sym (or_true_right e _ (or_true_right d _ (or_true_right c _ (or_true_right b true refl))))
turned false true c d e = sym (or_true_right e _ (or_true_right d _ (or_true_right c true refl)))
turned false false true d e = sym (or_true_right e _ (or_true_right d true refl))
turned false false false true e = sym (or_true_right e true refl)
turned false false false false e = refl

security_any : (f : SecurityResource → Bool) (p : ℕ → Bool) → ((s : SecurityResource) → f s ≡ p (security_number s)) → any f security_resources ≡ some_security p
unfolding any some_security entry_of
security_any f p e = rw (e Doxm, e Pstat, e Cred, e Acl2, e Roles) (turned (p 0) (p 1) (p 2) (p 3) (p 4))

row_fits : (a : Row) (s : SecurityResource) → resource_fits (Security s) (access_of a) ≡ resourceFitsBytes (byteResource (security_number s)) a
unfolding resource_fits resourceFitsBytes
row_fits a s = sym (ap (λ (e : ByteResource). resourceFitsBytes e a) (entry_read (Security s)))

pub alters_read : (a : Row) → row_alters (access_of a) ≡ rowAltersBytes a
unfolding row_alters rowAltersBytes has hasBytes
alters_read a = rw (security_any (λ s. resource_fits (Security s) (access_of a)) (λ n. resourceFitsBytes (byteResource n) a) (row_fits a))

module _ (t : ByteTables) (g : Given t) where
  names_owner_read : (s : Sender) → names_owner (tables_of t) s ≡ namesOwnerBytes t s
  unfolding names_owner namesOwnerBytes
  names_owner_read s =
      security_any (is_owner (tables_of t) (caller_of (tables_of t) s)) (isOwnerBytes (head_of t) (sender_row t s))
      (λ e. is_owner_read t g s e (sender_row t s) (credential_of (tables_of t) s) (own_reads t g s))

  may_alter_read : (s : Sender) → may_alter (tables_of t) s ≡ mayAlterBytes t s
  unfolding may_alter mayAlterBytes
  may_alter_read s =
      let w = sender_row t s in
      let m = credential_of (tables_of t) s in
      any_read access_of (Good ace_storable) (λ a. mayFitBytes w (connectionBit s) a && rowAltersBytes a) (λ a. may_fit (by 0 s m) a.subject && row_alters a)
      (λ a k. ap₂ (λ (x y : Bool). x && y) (fit_read s w m (own_reads t g s) a k.0) (alters_read a)) (rows Aces t) (aces_good t g)

  harmless_read : (chosen : Sender → Bool) → Harmless chosen (tables_of t) → HarmlessBytes chosen t
  harmless_read chosen p = record {
    has_owner = λ s c. sym (owned_read t g s) ∙ p.has_owner s c;
    not_owner = λ s c. sym (names_owner_read s) ∙ p.not_owner s c;
    not_granted = λ s c. sym (may_alter_read s) ∙ p.not_granted s c;
  }

premise_read : (chosen : Sender → Bool) (t : ByteTables) → IsStruct t → Premise chosen (read_tables t) → PremiseBytes chosen t
unfolding when
premise_read chosen t i p s = harmless_read t (record { is_sound = s; struct = i }) chosen (rw (read_is t i, s) at p)

-- and back

harmless_typed : (t : ByteTables) → Given t → (chosen : Sender → Bool) → HarmlessBytes chosen t → Harmless chosen (tables_of t)
harmless_typed t g chosen p = record {
  has_owner = λ s c. owned_read t g s ∙ p.has_owner s c;
  not_owner = λ s c. names_owner_read t g s ∙ p.not_owner s c;
  not_granted = λ s c. may_alter_read t g s ∙ p.not_granted s c;
}

pub premise_typed : (chosen : Sender → Bool) (t : ByteTables) → IsStruct t → PremiseBytes chosen t → Premise chosen (read_tables t)
unfolding when
premise_typed chosen t i p =
    bool_cases (soundBytes t) (λ s. rw (read_is t i, s) (harmless_typed t (record { is_sound = s; struct = i }) chosen (p s)))
    (λ s. rw (read_is t i, s) tt)

-- ---- along the book's run

module _ (d : Defaults) (e : DefaultBytes d) (chosen : Sender → Bool) where
  abbrev pub first : Tables
  first = read_fresh d

  abbrev pub others : List ByteRequest → List ByteRequest
  others qs = kept (isOthersBytes chosen) qs

  -- the others' records, read, are the others' of the records that are read
  pub others_read : (qs : List ByteRequest) → map read_record (others qs) ≡ kept (is_others chosen) (map read_record qs)
  others_read [] = refl
  others_read (q ∷ qs) =
      rw (sender_read q)
      (bool_cases (chosen (sender q.bytes)) (λ z. rw z (others_read qs)) (λ z. rw z (ap (λ (rs : List Record). read_record q ∷ rs) (others_read qs))))

  pub premise_along : (t : ByteTables) → IsStruct t → (qs : List ByteRequest) → AllBytes qs
      → Along (next first) (Premise chosen) (read_tables t) (map read_record qs) → Along (tables_after d) (PremiseBytes chosen) t qs
  premise_along t i [] h a = premise_read chosen t i a
  premise_along t i (q ∷ qs) h a = (
    premise_read chosen t i a.0,
    premise_along (tables_after d t q) (struct_kept d e t i q h.0) qs h.1
        (rw (next_read d e t i q h.0) a.1),
  )

  pub along_read : (t : ByteTables) → IsStruct t → (qs : List ByteRequest) → AllBytes qs
      → Along (tables_after d) (PremiseBytes chosen) t qs → Along (next (read_fresh d)) (Premise chosen) (read_tables t) (map read_record qs)
  along_read t i [] h a = premise_typed chosen t i a
  along_read t i (q ∷ qs) h a = (
    premise_typed chosen t i a.0,
    rw (← next_read d e t i q h.0) (along_read (tables_after d t q) (struct_kept d e t i q h.0) qs h.1 a.1),
  )

  pub kept_bytes : (qs : List ByteRequest) → AllBytes qs → AllBytes (others qs)
  kept_bytes [] h = tt
  kept_bytes (q ∷ qs) h = cond_cases AllBytes (isOthersBytes chosen q) (λ _. (h.0, kept_bytes qs h.1)) (λ _. kept_bytes qs h.1)

  pub run_struct : (t : ByteTables) → IsStruct t → (qs : List ByteRequest) → AllBytes qs → IsStruct (final (tables_after d) t qs)
  run_struct t i [] h = i
  run_struct t i (q ∷ qs) h = run_struct (tables_after d t q) (struct_kept d e t i q h.0) qs h.1

  pub isolation_typed : (t : ByteTables) → IsStruct t → (qs : List ByteRequest) → AllBytes qs
      → Along (next (read_fresh d)) (Premise chosen) (read_tables t) (kept (is_others chosen) (map read_record qs))
      → kept_of (isOthersBytes chosen) qs (replies (response_to d) (tables_after d) t qs)
      ≡ map written
      (replies (respond (read_fresh d)) (next (read_fresh d)) (read_tables t) (kept (is_others chosen) (map read_record qs)))
  isolation_typed t i qs h a =
      let bytes = kept_bytes qs h in
      let premise = premise_along t i (others qs) bytes (rw (others_read qs) a) in
      (isolation d chosen t qs premise).0
      ∙ replies_written d e t i (others qs) bytes
      ∙ ap (λ (rs : List Record). map written (replies (respond first) (next first) (read_tables t) rs)) (others_read qs)
