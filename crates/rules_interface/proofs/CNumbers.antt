-- Theorems: what the numbers that C is told say: of isolation, of a step of a store, of soundness; and that a new terminal is a cleared one.
-- The theorems of yards, of stores and of days speak of answers; these tie the numbers to them.
use Rattle.rows.proofs.Prelude.{◌≡◌, refl, sym, ◌∙◌, true, List, ℕ, arith, get_or}
use Rattle.rows.proofs.Bools.{bool_cases}
use Rattle.rules.specs.Defaults.{Defaults}
use Rattle.rules_terminal.specs.Terminal.{sound_terminal, fresh_terminal, cleared_terminal}
use Rattle.rules_isolation.specs.declared.Isolation.{Isolation}
use Rattle.rules_isolation.specs.declared.Isolation.TheVariants.{Isolated, OddLength, Unsound, NoOwner, NamesOwner, MayAlter}
use Rattle.rules_isolation.specs.Question.{report_of}
use Rattle.rules_store.specs.declared.Step.{Step}
use Rattle.rules_store.specs.declared.Step.TheVariants.{Write, Done, Unfit}
use Rattle.rules_store.specs.Store.{next}
use Rattle.rules_interface.specs.Memory.{Memory, terminal_at}
use Rattle.rules_interface.specs.Interface.{FreshAt, ClearsAt, IsSoundAt}
use Rattle.rules_interface.specs.Storing.{answer_in, address_in, byte_in, StoresNext}

-- reason 0 is 'isolated', and nothing else is
pub reason_isolated : (i : Isolation) → (report_of i).reason ≡ 0 → i ≡ Isolated
reason_isolated Isolated e = refl
reason_isolated OddLength e = absurd (omega (arith, e))
reason_isolated Unsound e = absurd (omega (arith, e))
reason_isolated NoOwner e = absurd (omega (arith, e))
reason_isolated (NamesOwner i) e = absurd (omega (arith, e))
reason_isolated (MayAlter i j) e = absurd (omega (arith, e))

-- ---- a step of a store

done_of : (t : Step) → answer_in t ≡ 0 → t ≡ Done
done_of (Write at byte) e = absurd (omega (arith, e))
done_of Done e = refl
done_of Unfit e = absurd (omega (arith, e))

write_of : (t : Step) (address byte : List ℕ) → answer_in t ≡ 1 → t ≡ Write (get_or (address_in t address) 0 0) (get_or (byte_in t byte) 0 0)
write_of (Write at b) address byte e = refl
write_of Done address byte e = absurd (omega (arith, e))
write_of Unfit address byte e = absurd (omega (arith, e))

unfit_of : (t : Step) → answer_in t ≡ 2 → t ≡ Unfit
unfit_of (Write at byte) e = absurd (omega (arith, e))
unfit_of Done e = absurd (omega (arith, e))
unfit_of Unfit e = refl

module _ (store image : List ℕ) (from told : ℕ) (lentAddress lentByte address byte : List ℕ)
    (s : StoresNext store image from told lentAddress lentByte address byte) where
  -- 0: the image is the current one
  pub c_done : told ≡ 0 → next store image from ≡ Done
  c_done e = done_of (next store image from) (sym s.answer ∙ e)

  -- 1: the byte that C is told is to be written at the place that it is told
  pub c_write : told ≡ 1 → next store image from ≡ Write (get_or address 0 0) (get_or byte 0 0)
  c_write e = rw (s.address_is, s.byte_is) (write_of (next store image from) lentAddress lentByte (sym s.answer ∙ e))

  -- 2: the store is not one for such images
  pub c_unfit : told ≡ 2 → next store image from ≡ Unfit
  c_unfit e = unfit_of (next store image from) (sym s.answer ∙ e)

-- ---- a terminal

-- 1: it is sound
pub c_sound : (m : Memory) (told : ℕ) → IsSoundAt m told → told ≡ 1 → sound_terminal (terminal_at m) ≡ true
c_sound m told s e =
    bool_cases (sound_terminal (terminal_at m)) (λ t. t) (λ f. absurd (omega (arith, rw f at (sym s.says ∙ e))))

-- a new terminal is what the clear button leaves
pub fresh_clears : (d : Defaults) (m after : Memory) → FreshAt d after → ClearsAt d m after
unfolding cleared_terminal fresh_terminal
fresh_clears d m after e = e
