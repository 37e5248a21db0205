-- Folds over the access rows are unions: of what each row gives, and so for each link.
use Rattle.rows.proofs.Prelude.{◌≡◌, sym, ap, ◌∙◌, List, [], ◌∷◌, ℕ, bit_or, or_zero_r, replicate}
use mathlib.Core.Path.{fun_ext}
use Rattle.std.specs.List.{fold}
use Rattle.rows.specs.Rows.{Row, union_of}
use Rattle.rows.proofs.Union.{or_assoc}
use Rattle.permission_row.specs.ByLink.{by_link, of_link}

-- with what a row gives
abbrev pub united : (Row → ℕ) → ℕ → Row → ℕ
united gives total row = bit_or total (gives row)

pub rows_united : (gives : Row → ℕ) (total : ℕ) (rows : List Row) → fold (united gives) total rows ≡ bit_or total (union_of gives rows)
unfolding union_of
rows_united gives total [] = sym (or_zero_r total)
rows_united gives total (row ∷ rows) =
    rows_united gives (bit_or total (gives row)) rows ∙ or_assoc total (gives row) (union_of gives rows)

-- with what a row gives on each link
abbrev pub links_united : (ℕ → Row → ℕ) → List ℕ → Row → List ℕ
links_united gives total row = by_link (λ n. united (gives n) (of_link total n) row)

from : (gives : ℕ → Row → ℕ) (total : ℕ → ℕ) (rows : List Row)
    → fold (links_united gives) (by_link total) rows ≡ by_link (λ n. bit_or (total n) (union_of (gives n) rows))
unfolding union_of by_link
from gives total [] = ap by_link (fun_ext (λ n. sym (or_zero_r (total n))))
from gives total (row ∷ rows) =
    from gives (λ n. bit_or (total n) (gives n row)) rows
    ∙ ap by_link (fun_ext (λ n. or_assoc (total n) (gives n row) (union_of (gives n) rows)))

pub each_united : (gives : ℕ → Row → ℕ) (rows : List Row) → fold (links_united gives) (replicate 7 0) rows ≡ by_link (λ n. union_of (gives n) rows)
unfolding by_link
each_united gives rows = from gives (λ n. 0) rows
