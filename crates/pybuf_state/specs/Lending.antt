-- What an exporter lends of the bytes of a view.
use Rattle.std.specs.Prelude.{◌≡◌, ℕ, ◌≤◌, List, length, true, slice_index, slice_range, false, Option, MatchOption}
use Rattle.std.specs.Borrow.{Lends, MutBor, Fml, Array, u8, Bor}
use Rattle.pybuf_desc.specs.Layouts.{Layout}
use Rattle.pybuf_desc.specs.Contiguous.{is_contiguous_layout}
use Rattle.pybuf_desc.specs.Items.{content_of_layout}
use Rattle.pybuf_state.specs.Live.{layout_of}
use Rattle.pybuf_state.specs.Answers.{exporter_of}
use Rattle.pybuf_state.specs.Store.{overwritten_from}
use Rattle.pybuf_state.specs.declared.parts.Parts.{Parts}
use Rattle.pybuf_state.specs.contracts.parts.Parts.{the_row}

-- The items of a view lie one after the other, from one place up to another. So the bytes between these places are the
-- bytes of the view.
pub record IsRunOf (bytes : List ℕ) (layout : Layout) (start end : ℕ) : Type 0 where
  pub contiguous : is_contiguous_layout layout ≡ true
  pub first : start ≡ slice_index layout.starts 0
  pub order : start ≤ end
  pub inside : end ≤ length bytes
  pub content : slice_range bytes start end ≡ content_of_layout bytes layout

-- the parts after bytes were written from a place on
abbrev pub with_run : Parts → ℕ → List ℕ → Parts
with_run p place bytes = record p { bytes = overwritten_from p.bytes place bytes }

-- after a loan, the bytes that the loan ends with stand in the parts in place of the bytes of the view
abbrev pub LendsRun : MutBor Parts → ℕ → MutBor (List ℕ) → Fml
LendsRun s k r = Lends the_row (Array u8 0) s r (with_run s.now (slice_index (layout_of (exporter_of s.now) k).starts 0))

-- where the bytes of a view start and end; nothing exactly where its items don't lie one after the other
abbrev pub GivesRun : Parts → ℕ → Option (ℕ × ℕ) → Type 0
GivesRun p k result =
    MatchOption result (is_contiguous_layout (layout_of (exporter_of p) k) ≡ false) (λ run. IsRunOf p.bytes.items (layout_of (exporter_of p) k) run.0 run.1)

-- the bytes of a view, lent; nothing exactly where its items don't lie one after the other
abbrev pub GivesContent : Parts → ℕ → Option (Bor (List ℕ)) → Type 0
GivesContent p k result =
    MatchOption result (is_contiguous_layout (layout_of (exporter_of p) k) ≡ false) (λ bytes. (is_contiguous_layout (layout_of (exporter_of p) k) ≡ true) × (bytes.now ≡ content_of_layout p.bytes.items (layout_of (exporter_of p) k)))
