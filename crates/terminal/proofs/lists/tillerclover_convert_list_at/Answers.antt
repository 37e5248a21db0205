-- `lists::tillerclover_convert_list_at`: what is reported, in words.
use Rattle.rows.proofs.Prelude.{◌≡◌, ap, ap₂, ◌∙◌, List, [], ◌∷◌, ℕ}
use Rattle.std.specs.Prelude.{Result, MatchResult}
use Rattle.std.specs.Result.{result_unwrap_or}
use Rattle.std.specs.declared.result.Result.TheVariants.{Ok, Err}
use Rattle.list_convert.specs.declared.ConvertError.{ConvertError}
use Rattle.list_convert.specs.Answers.{refusal, answer_of}
use Rattle.terminal.proofs.lists.tillerclover_convert_list_at.Goals as goal

words_are : (written : Result ℕ ConvertError) (words : List ℕ)
    → MatchResult written (λ size. words ≡ 0 ∷ size ∷ []) (λ error. (number : ℕ) × (number ≡ refusal error) × (words ≡ number ∷ 0 ∷ []))
    → words ≡ answer_of written ∷ result_unwrap_or written 0 ∷ []
words_are (Ok size) words e = e
words_are (Err error) words e = e.2 ∙ ap (λ (number : ℕ). number ∷ 0 ∷ []) e.1

pub returns : goal.returns
returns c =
    let list = c.convert.ensures in
    record { says = words_are _ _ c.two_words.ensures ∙ ap₂ (λ (answer n : ℕ). answer ∷ n ∷ []) list.answer list.length; fills = list.buffer }
