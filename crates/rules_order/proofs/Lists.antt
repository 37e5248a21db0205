-- Lists in any order (U10 with U14): a list that the test accepts is accepted in every order, and loads tables that differ only in that order.
-- Of a list that it does not accept the first bad row may be another.
use Rattle.rows.proofs.Prelude.{◌≡◌, sym, ap, ◌∙◌, not, ◌||◌, List, ℕ, ◌/◌, ◌%◌, length, eqb, ltb}
use Rattle.rules.specs.declared.Table.TheVariants.{Aces}
use Rattle.rules.specs.declared.Tables.{Tables}
use Rattle.rules.specs.Record.{Request}
use Rattle.rules.specs.Tables.{storable}
use Rattle.rules.specs.Defaults.{Defaults}
use Rattle.rules.specs.Outcome.{tables_after}
use Rattle.rules.specs.Run.{final}
use Rattle.rules.proofs.SoundKept.{run_sound}
use Rattle.rules_lists.specs.declared.Tested.{Tested}
use Rattle.rules_lists.specs.Loading.{Ready, Stores}
use Rattle.rules_lists.proofs.Loaded.{accepted_loaded}
use Rattle.rules_lists.specs.Lists.{listed, bad_size, excessive, list_tested, accepted}
use Rattle.rules_lists.proofs.Exact.{faultless_accepted, accepted_faultless}
use Rattle.rules_order.specs.Reorder.{Reordered}
use Rattle.rules_order.specs.Order.{OrderOnly}
use Rattle.rules.proofs.Answers.{rows_count}
use Rattle.rules_order.proofs.ReorderLaws.{order_length, order_every, order_some, order_distinct}
use Rattle.rules.specs.Sizes.{ace_row_size}

pub list_any_order : (b c : List ℕ) → length b ≡ length c → Reordered (listed b) (listed c) → (list_tested b).answer ≡ 0 → list_tested c ≡ accepted
unfolding bad_size
list_any_order b c l o h =
    let f = accepted_faultless b h in
    faultless_accepted c
    (record {
      whole = ap (λ (n : ℕ). not (eqb (n % ace_row_size) 0) || ltb 32 (n / ace_row_size)) (sym l) ∙ f.whole;
      clean = record {
        stores = sym (order_every (storable Aces) o) ∙ f.clean.stores;
        distinct = sym (order_distinct o) ∙ f.clean.distinct;
        modest = sym (order_some excessive o) ∙ f.clean.modest;
      };
    })

-- loaded from the same tables, by records of the device owner with any clocks and buffer lengths
pub loaded_any_order :
    (d : Defaults) (t : Tables) (b c : List ℕ) (qs rs : List Request)
    → length b ≡ length c → Reordered (listed b) (listed c) → (list_tested b).answer ≡ 0
    → Ready t → Stores t qs (listed b) → Stores t rs (listed c)
    → OrderOnly (final (tables_after d) t qs) (final (tables_after d) t rs)
loaded_any_order d t b c qs rs l o h ready e f =
    let one = accepted_loaded d t b qs h ready e in
    let other = accepted_loaded d t c rs (ap (λ (x : Tested). x.answer) (list_any_order b c l o h)) ready f in
    record {
      others = one.others ∙ sym other.others;
      counted = sym (rows_count Aces (final (tables_after d) t qs) (run_sound d t qs ready.is_sound))
          ∙ ap length one.held
          ∙ order_length o
          ∙ sym (sym (rows_count Aces (final (tables_after d) t rs) (run_sound d t rs ready.is_sound)) ∙ ap length other.held);
      order = rw (one.held, other.held) o;
    }
