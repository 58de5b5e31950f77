-- What is assigned to a view, by the view's descriptor.
use Rattle.std.proofs.Common.{◌≡◌, ℕ, ◌*◌, ◌<◌, pos, ℤ, Bool, true, false, not, List, [], ◌∷◌, length, map, refl, ap, ap₂, sym, ◌∙◌, subst, arith, true≢false}
use Rattle.std.specs.Prelude.{◌==◌, nat_abs, Ok}
use Rattle.std.proofs.lemmas.Bool.{eq-eqb}
use Rattle.std.proofs.lemmas.List.Elements.{recursion_from_All}
use Rattle.pybuf_lemmas.proofs.Numbers.{first_factor_positive, second_factor_positive}
use Rattle.pybuf_value.specs.declared.faults.Fault.TheVariants as fault
use Rattle.pybuf_value.specs.Refusing.{◌>>=◌, unless}
use Rattle.pybuf_desc.specs.Layouts.{Layout, product}
use Rattle.pybuf_desc.specs.Descriptor.{Descriptor, shape_of}
use Rattle.pybuf_desc.specs.Places.{places, Stands}
use Rattle.pybuf_desc.specs.Valid.{IsInside, IsValid}
use Rattle.pybuf_memoryview.specs.Orders.{nbytes_of}
use Rattle.pybuf_state.specs.Exporter.{Exporter}
use Rattle.pybuf_verbs_writes.specs.Laid.{laid}
use Rattle.pybuf_nd.specs.Assigning.{bytes_assigned}
use Rattle.pybuf_nd.proofs.LaidItems.{Entered, Inside}

all_entered : (dims : List (ℕ × ℤ × ℤ)) → 0 < product (shape_of dims) → Entered dims
all_entered [] some = tt
all_entered (dim ∷ dims) some = (first_factor_positive dim.0 (product (shape_of dims)) some, all_entered dims (second_factor_positive dim.0 (product (shape_of dims)) some))

-- If there are bytes, no dimension lacks an entry.
pub entered_of : (d : Descriptor) (dims : List (ℕ × ℤ × ℤ)) (start room : ℕ) (content : List ℕ) → IsValid d start room → dims ≡ d.dims → length content ≡ d.len → 0 < length content → Entered dims
entered_of d dims start room content valid same long some =
    let whole : 0 < d.itemsize * product (shape_of d.dims) = (let len = valid.len in omega (arith, len, long, some)) in
    subst Entered (sym same) (all_entered d.dims (second_factor_positive d.itemsize (product (shape_of d.dims)) whole))

pub inside_of : (d : Descriptor) (dims : List (ℕ × ℤ × ℤ)) (start size room : ℕ) → IsValid d start room → dims ≡ d.dims → size ≡ d.itemsize → Inside size room (places dims (pos start))
inside_of d dims start size room valid same wide =
    subst (λ (n : ℕ). Inside n room (places dims (pos start))) (sym wide)
    (subst (λ (ds : List (ℕ × ℤ × ℤ)). Inside d.itemsize room (places ds (pos start))) (sym same) (recursion_from_All (IsInside d.itemsize room) (places d.dims (pos start)) valid.inside))

each_abs : (starts : List ℕ) → map nat_abs (map pos starts) ≡ starts
each_abs [] = refl
each_abs (start ∷ starts) = ap (λ (xs : List ℕ). start ∷ xs) (each_abs starts)

passed : (refused long : Bool) (e : Exporter) → refused ≡ false → long ≡ true → (unless refused fault.Kind >>= λ u. unless (not long) fault.Value >>= λ v. Ok e) ≡ Ok e
passed true long e writable as_many = absurd (true≢false writable)
passed false false e writable as_many = absurd (true≢false (sym as_many))
passed false true e writable as_many = refl

-- All bytes are written over the items of the view.
pub assigned_all : (e new : Exporter) (d : Descriptor) (start size : ℕ) (view : Layout) (content : List ℕ) (dims : List (ℕ × ℤ × ℤ)) → Stands d start view → IsValid d start (length e.bytes)
    → d.readonly ≡ false → length content ≡ d.len → dims ≡ d.dims → size ≡ d.itemsize → new ≡ record e { bytes = laid e.bytes size (map nat_abs (places dims (pos start))) content }
    → bytes_assigned e view content ≡ Ok new
assigned_all e new d start size view content dims stands valid writable long same wide is =
    let starts : map nat_abs (places dims (pos start)) ≡ view.starts =
    ap (λ (ds : List (ℕ × ℤ × ℤ)). map nat_abs (places ds (pos start))) same ∙ ap (map nat_abs) stands.starts ∙ each_abs view.starts in
    let many : length content ≡ nbytes_of view = long ∙ sym valid.len ∙ ap₂ (λ (n : ℕ) (shape : List ℕ). n * product shape) stands.itemsize stands.shape in
    passed view.readonly (length content == nbytes_of view) (record e { bytes = laid e.bytes view.itemsize view.starts content }) (sym stands.readonly ∙ writable) (eq-eqb (length content) (nbytes_of view) many)
    ∙ ap (λ (x : Exporter). Ok x) (sym (is ∙ ap₂ (λ (n : ℕ) (xs : List ℕ). record e { bytes = laid e.bytes n xs content }) (wide ∙ stands.itemsize) starts))
