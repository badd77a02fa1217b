-- The table of covered events, computed from the definition of covering: its entry for a cell has just the events that the cell covers.
-- The table in src/ is compared with it where it is read.
use Rattle.std.proofs.Common.{◌≡◌, ℕ, zero, suc, ◌+◌, ◌<◌, List, [], ◌∷◌, get_or, sym, ap, ◌∙◌, le_of_suc-le-suc, not-suc-le-zero, add-zero, add-suc, suc-add, zero-add}
use Rattle.events.specs.Sets.{has, set_of}
use Rattle.events.specs.Cells.{covers}
use Rattle.events.proofs.SetLaws.{has-set_of}

-- f i, f (i + 1), .. , n of them
abbrev pub tabulate : (ℕ → ℕ) → ℕ → ℕ → List ℕ
tabulate f i zero = []
tabulate f i (suc n) = f i ∷ tabulate f (suc i) n

tabulated : (f : ℕ → ℕ) (i n k : ℕ) → k < n → get_or (tabulate f i n) k 0 ≡ f (i + k)
tabulated f i zero k h = absurd (not-suc-le-zero h)
tabulated f i (suc n) zero h = ap f (sym (add-zero i))
tabulated f i (suc n) (suc k) h = tabulated f (suc i) n k (le_of_suc-le-suc h) ∙ ap f (suc-add i k ∙ sym (add-suc i k))

-- the entries of the cells 0 to 728
unfoldable pub entries : List ℕ
unfolding set_of covers has
entries = tabulate (λ cell. set_of 64 (covers cell)) 0 729

pub entry_rule : (cell : ℕ) → cell < 729 → (e : ℕ) → e < 64 → has (get_or entries cell 0) e ≡ covers cell e
unfolding entries
entry_rule cell h e l =
    ap (λ (set : ℕ). has set e) (tabulated (λ c. set_of 64 (covers c)) 0 729 cell h ∙ ap (λ (c : ℕ). set_of 64 (covers c)) (zero-add cell))
    ∙ has-set_of 64 (covers cell) e l
