-- Views that were made at a length.
use Rattle.std.proofs.Common.{◌≡◌, inl, inr, ℕ, Bool, true, false, true≢false, not, List, length, ap, sym, ◌∙◌, refl, subst}
use Rattle.std.specs.Prelude.{Some, slice_get}
use Rattle.std.specs.List.{All}
use Rattle.std.proofs.lemmas.Option.{slice_get_within, get_or_from_slice_get}
use Rattle.pybuf_command.specs.declared.commands.LocalCommand.{LocalCommand}
use Rattle.pybuf_state.specs.Exporter.{Exporter, View}
use Rattle.pybuf_state.specs.Keeps.{IsSameOrReleased}
use Rattle.pybuf_state.specs.Live.{is_live, is_unreleased}
use Rattle.pybuf_state.specs.Sound.{IsSoundExporter, IsSoundView}
use Rattle.pybuf_exporter.specs.Laws.{LengthsStayUnderCommands}
use Rattle.pybuf_locked.specs.Locked.{stepped}
use Rattle.pybuf_locked.specs.Viewed.{HasViewMadeAt}

made_as_before : (v w : View) → IsSameOrReleased v w → w.made_at ≡ v.made_at
made_as_before v w (inl same) = ap (λ (x : View). x.made_at) same
made_as_before v w (inr released) = ap (λ (x : View). x.made_at) released

pub kept : LengthsStayUnderCommands → (view n : ℕ) (e : Exporter) (command : LocalCommand) → IsSoundExporter e → HasViewMadeAt view n e → HasViewMadeAt view n (stepped e command).0
kept law view n e command sound has =
    let after = (law e command.subject command.verb command.loans sound).views view has.made has.given in
    record { made = after.0; given = after.1; made_at = made_as_before has.made after.0 after.2 ∙ has.made_at }

All-slice_get : {X : Type 0} (P : X → Type 0) (xs : List X) (k : ℕ) (x : X) → All P xs → slice_get xs k ≡ Some x → P x
All-slice_get P xs k x all at = subst P (get_or_from_slice_get xs k x x at) (all k x (slice_get_within xs k x at))

unreleased : (b : Bool) → not b ≡ true → b ≡ false
unreleased false live = refl
unreleased true live = absurd (true≢false (sym live))

pub as_long : (view n : ℕ) (e : Exporter) → IsSoundExporter e → HasViewMadeAt view n e → is_live e view ≡ true → length e.bytes ≡ n
as_long view n e sound has live =
    let made = has.made in
    let is_unreleased_view : not made.released ≡ true = sym (ap is_unreleased has.given) ∙ live in
    let held = (All-slice_get (IsSoundView e.kind e.bytes) e.views view made sound.views has.given).held (unreleased made.released is_unreleased_view) in
    sym held.length_kept ∙ has.made_at
