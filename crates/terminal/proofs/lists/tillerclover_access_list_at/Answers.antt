-- `lists::tillerclover_access_list_at`: the list of the head that is read.
use Rattle.rows.proofs.Prelude.{◌≡◌, ap, ◌∙◌, List, [], ◌∷◌, ℕ}
use Rattle.std.specs.Prelude.{Result, MatchResult}
use Rattle.std.specs.Result.{result_unwrap_or}
use Rattle.std.specs.declared.result.Result.TheVariants.{Ok, Err}
use Rattle.office_list.specs.declared.TextError.{TextError}
use Rattle.office_list.specs.Answers.{refusal, answer_of}
use Rattle.rules_interface.proofs.Lent.{lists_at}
use Rattle.terminal.proofs.lists.tillerclover_access_list_at.Goals as goal

words_are : (written : Result ℕ TextError) (words : List ℕ)
    → MatchResult written (λ size. words ≡ 0 ∷ size ∷ []) (λ error. (number : ℕ) × (number ≡ refusal error) × (words ≡ number ∷ 0 ∷ []))
    → words ≡ answer_of written ∷ result_unwrap_or written 0 ∷ []
words_are (Ok size) words e = e
words_are (Err error) words e = e.2 ∙ ap (λ (number : ℕ). number ∷ 0 ∷ []) e.1

pub returns : goal.returns
returns c =
    let list = c.access_list.ensures in
    rw (words_are _ _ c.two_words.ensures) (lists_at _ _ c.head_at-head.ensures _ _ _ _ list.answer list.length list.buffer)
