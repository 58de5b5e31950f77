-- Views of bytes in a shape, as the code keeps them.
use Rattle.std.proofs.Common.{◌≡◌, ℕ, ◌*◌, ◌≤◌, ◌^◌, true, List, length, sym, ◌∙◌, ap, subst, arith, get_or, All}
use Rattle.std.specs.Prelude.{Result, IfOk}
use Rattle.std.specs.List.{range_with_len}
use Rattle.std.proofs.lemmas.List.FromFn.{length-range_with_len}
use Rattle.pybuf_lemmas.proofs.Results.{if_ok_follows}
use Rattle.pybuf_desc.specs.Facts.{whole_is_contiguous, whole_is_inside}
use Rattle.pybuf_value.specs.declared.faults.Outcome.{Outcome}
use Rattle.pybuf_value.specs.declared.faults.Outcome.TheVariants as outcome
use Rattle.pybuf_value.specs.Halting.{given_by}
use Rattle.pybuf_value.specs.Refusing.{IfDone}
use Rattle.pybuf_desc.specs.Contiguous.{is_contiguous_layout}
use Rattle.pybuf_desc.specs.Layouts.{Layout, LiesInside, bytes_layout, product}
use Rattle.pybuf_desc.specs.ShapedCasts.{cast_to}
use Rattle.pybuf_desc.specs.Descriptor.{Descriptor}
use Rattle.pybuf_desc.specs.Places.{Stands, layout_at}
use Rattle.pybuf_desc.specs.Valid.{IsValid, IsPlaced, IsPlaceable}
use Rattle.pybuf_desc.specs.Laws.{DescriptorsStandForOneView, ValidWhereItemsLieInside, ShapedCastsStayInside}

-- ---- all bytes as one view

pub contiguous_whole : (n : ℕ) (view : Layout) → view ≡ bytes_layout n true → is_contiguous_layout view ≡ true
contiguous_whole n view is = ap is_contiguous_layout is ∙ whole_is_contiguous n true

shape_bytes : (n p : ℕ) → n ≡ p → length (range_with_len 0 n) * 1 ≡ p * 1
shape_bytes n p whole = let long = length-range_with_len 0 n in omega (arith, long, whole)

shape_is_inside : ShapedCastsStayInside → (n : ℕ) (shape text : List ℕ) (whole : Layout) → n ≡ product shape → whole ≡ bytes_layout n true → LiesInside n (cast_to whole text 1 shape)
shape_is_inside stay n shape text whole fits is =
    subst (λ (view : Layout). LiesInside n (cast_to view text 1 shape)) (sym is)
    (stay (bytes_layout n true) text 1 shape n (whole_is_contiguous n true) (omega arith) (shape_bytes n (product shape) fits) (whole_is_inside n true))

pub inside_if : {E : Type 0} → ShapedCastsStayInside → (r : Result Layout E) (n : ℕ) (shape text : List ℕ) (whole : Layout) → n ≡ product shape → whole ≡ bytes_layout n true
    → IfOk r (λ view. view ≡ cast_to whole text 1 shape) → IfOk r (λ view. LiesInside n view)
inside_if stay r n shape text whole fits is made =
    if_ok_follows r (λ view. view ≡ cast_to whole text 1 shape) (λ view. LiesInside n view)
    (λ view e. subst (LiesInside n) (sym e) (shape_is_inside stay n shape text whole fits is)) made

-- ---- views that are made of a view

pub done_so : {B : Type 0} (P : B → Type 0) (o : Outcome B) (b : B) → o ≡ outcome.Done b → IfDone P (given_by o) → P b
done_so {B = B} P o b e h = subst (λ (x : Outcome B). IfDone P (given_by x)) e h

pub placed_so : (d made : Descriptor) (start next : ℕ) → IsPlaced d start → ((room : ℕ) → IsValid d start room → IsValid made next room) → IsPlaced made next
placed_so d made start next placed valid = record { room = placed.room; room_fits = placed.room_fits; valid = valid placed.room placed.valid }

pub made_is : DescriptorsStandForOneView → (made : Descriptor) (next : ℕ) (view kept : Layout) → Stands made next view → kept ≡ layout_at made next → kept ≡ view
made_is one made next view kept stands is = is ∙ sym (one made next view stands)

pub made_inside : ValidWhereItemsLieInside → (d made : Descriptor) (start next : ℕ) (view other kept : Layout) → IsPlaced d start → Stands d start view → Stands made next other
    → ((room : ℕ) → IsValid d start room → IsValid made next room) → kept ≡ other → (room : ℕ) → LiesInside room view → LiesInside room kept
made_inside law d made start next view other kept placed stands stands_other valid is room inside =
    subst (LiesInside room) (sym is)
    ((law made next room other (placed_so d made start next placed valid) stands_other).1 (valid room ((law d start room view placed stands).0 inside)))
