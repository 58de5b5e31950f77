-- If tabs become spaces, no tab is left, and a text without tabs stays.
use Rattle.std.proofs.Common.{◌≡◌, ℕ, ◌+◌, ◌==◌, ◌||◌, zero, suc, false, cond, List, [], ◌∷◌, ◌++◌, replicate, refl, ap, ◌∙◌}
use Rattle.std.proofs.lemmas.List.Folds.{list_any-append}
use Rattle.pybuf_lemmas.proofs.Lists.{by_condition}
use Rattle.pybuf_lemmas.proofs.Booleans.{neither_of}
use Rattle.pybuf_shaping.specs.Tabs.{spaces_at, column_behind, expanded_from}
use Rattle.pybuf_shaping.specs.Laws.{holds_tab, TabsAreSpaces}

of_spaces : (count : ℕ) → holds_tab (replicate count 32) ≡ false
of_spaces zero = refl
of_spaces (suc count) = of_spaces count

no_tab : (size column : ℕ) (bytes : List ℕ) → holds_tab (expanded_from size column bytes) ≡ false
no_tab size column [] = refl
no_tab size column (b ∷ bytes) =
    let spaces : List ℕ = replicate (spaces_at size column) 32 in
    let rest : List ℕ = expanded_from size (column + spaces_at size column) bytes in
    let others : List ℕ = expanded_from size (column_behind column b) bytes in
    by_condition (b == 9) (spaces ++ rest) (b ∷ others) (λ text. holds_tab text ≡ false)
    (λ tab. list_any-append (λ c. c == 9) spaces rest ∙ (ap (λ t. t || holds_tab rest) (of_spaces (spaces_at size column)) ∙ no_tab size (column + spaces_at size column) bytes))
    (λ other. ap (λ t. t || holds_tab others) other ∙ no_tab size (column_behind column b) bytes)

unchanged : (size column : ℕ) (bytes : List ℕ) → holds_tab bytes ≡ false → expanded_from size column bytes ≡ bytes
unchanged size column [] none = refl
unchanged size column (b ∷ bytes) none =
    let parts = neither_of (b == 9) (holds_tab bytes) none in
    ap (λ t. cond t (replicate (spaces_at size column) 32 ++ expanded_from size (column + spaces_at size column) bytes) (b ∷ expanded_from size (column_behind column b) bytes)) parts.0
    ∙ ap (λ t. b ∷ t) (unchanged size (column_behind column b) bytes parts.1)

pub tabs_are_spaces : (size : ℕ) (bytes : List ℕ) → TabsAreSpaces size bytes
tabs_are_spaces size bytes = record {
  none = no_tab size 0 bytes;
  same = unchanged size 0 bytes;
}
