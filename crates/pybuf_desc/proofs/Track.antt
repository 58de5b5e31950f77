-- A sum of index times stride stays in the room on its way.
use Rattle.std.proofs.Common.{◌≡◌, ℕ, zero, suc, ◌*◌, ◌^◌, ◌<◌, ◌≤◌, ℤ, pos, ◌+ℤ◌, ◌*ℤ◌, ◌≤ℤ◌, List, [], ◌∷◌, refl, sym, subst, arith, SFits, w64, le-mul_of_pos_right, mul-pos, zero-lt-suc}
use Rattle.std.proofs.lemmas.Int.{ints}
use Rattle.std.specs.List.{AllByRecursion}
use Rattle.std.proofs.lemmas.List.Elements.{recursion_from_All}
use Rattle.pybuf_lemmas.proofs.Integers.{successor_times, zeroth_place}
use Rattle.pybuf_lemmas.proofs.Recursion.{left_by_recursion, right_by_recursion}
use Rattle.pybuf_desc.specs.Descriptor.{Descriptor}
use Rattle.pybuf_desc.specs.Places.{places}
use Rattle.pybuf_desc.specs.Valid.{IsInside, IsPlaceable}
use Rattle.pybuf_desc.proofs.Steps.{blocks_apart, places-cons}
use Rattle.pybuf_desc.proofs.Inside.{Reaches, reach_from_inside, back_reach, forth_reach}
use Rattle.pybuf_desc.proofs.Products.{AreNonzero, extent_of, extent_pos}

pub record Track (dims : List (ℕ × ℤ × ℤ)) (offset : ℤ) : Type 0 where
  pub start : ℕ
  pub size : ℕ
  pub room : ℕ
  pub room_fits : room < 2 ^ 63
  pub start_fits : start ≤ room
  pub some : AreNonzero dims
  pub entries : AllByRecursion (λ (dim : ℕ × ℤ × ℤ). dim.0 < 2 ^ 63) dims
  pub inside : AllByRecursion (IsInside size room) (places dims (pos start +ℤ offset))

-- if each dimension has an entry, the start itself lies in the room
pub here : (size room : ℕ) (dims : List (ℕ × ℤ × ℤ)) (p : ℤ) → AreNonzero dims → AllByRecursion (IsInside size room) (places dims p) → (pos 0 ≤ℤ p) × (p ≤ℤ pos room)
here size room dims p some h =
    let r : Reaches size room (back_reach dims) (forth_reach dims) p = reach_from_inside size room dims p some h in
    let low = r.least in let high = r.greatest in (omega (arith, ints), omega (arith, ints))

inside_block : (P : ℤ → Type 0) (block : ℤ → List ℤ) (n i : ℕ) (p t : ℤ) → i < n → AllByRecursion P (blocks_apart block n p t) → AllByRecursion P (block (p +ℤ pos i *ℤ t))
inside_block P block zero i p t h all = absurd (omega arith)
inside_block P block (suc n) zero p t h all =
    subst (λ q. AllByRecursion P (block q)) (sym (zeroth_place p t)) (left_by_recursion P (block p) (blocks_apart block n (p +ℤ t) t) all)
inside_block P block (suc n) (suc i) p t h all =
    subst (λ q. AllByRecursion P (block q)) (let e : p +ℤ t +ℤ pos i *ℤ t ≡ p +ℤ pos (suc i) *ℤ t = omega (arith, ints, successor_times i t) in e)
    (inside_block P block n i (p +ℤ t) t (omega arith) (right_by_recursion P (block p) (blocks_apart block n (p +ℤ t) t) all))

pub inside_entry : (size room : ℕ) (dim : ℕ × ℤ × ℤ) (dims : List (ℕ × ℤ × ℤ)) (p : ℤ) (i : ℕ) → i < dim.0 → AllByRecursion (IsInside size room) (places (dim ∷ dims) p) → AllByRecursion (IsInside size room) (places dims (p +ℤ pos i *ℤ dim.1))
inside_entry size room dim dims p i h all =
    inside_block (IsInside size room) (places dims) dim.0 i p dim.1 h (subst (AllByRecursion (IsInside size room)) (places-cons dim dims p) all)

-- what one step of the sum needs, and what it gives
pub record Step (dim : ℕ × ℤ × ℤ) (dims : List (ℕ × ℤ × ℤ)) (offset : ℤ) (i : ℕ) : Type 0 where
  pub index_fits : i < 2 ^ 63
  pub product_fits : SFits w64 (pos i *ℤ dim.1)
  pub sum_fits : SFits w64 (offset +ℤ pos i *ℤ dim.1)
  pub track : Track dims (offset +ℤ pos i *ℤ dim.1)

pub difference_fits : (p q m : ℤ) (room : ℕ) → room < 2 ^ 63 → pos 0 ≤ℤ p → p ≤ℤ pos room → pos 0 ≤ℤ q → q ≤ℤ pos room → q ≡ p +ℤ m → SFits w64 m
difference_fits p q m room f a b c d e = omega (arith, ints)

move_fits : (start room : ℕ) (q s : ℤ) → room < 2 ^ 63 → start ≤ room → pos 0 ≤ℤ q → q ≤ℤ pos room → q ≡ pos start +ℤ s → SFits w64 s
move_fits start room q s f g a b e = omega (arith, ints)

pub step : (dim : ℕ × ℤ × ℤ) (dims : List (ℕ × ℤ × ℤ)) (offset : ℤ) (i : ℕ) → i < dim.0 → Track (dim ∷ dims) offset → Step dim dims offset i
step dim dims offset i h t =
    let p : ℤ = pos t.start +ℤ offset in
    let m : ℤ = pos i *ℤ dim.1 in
    let all : AllByRecursion (IsInside t.size t.room) (places dims (p +ℤ m)) = inside_entry t.size t.room dim dims p i h t.inside in
    let at : (pos 0 ≤ℤ p) × (p ≤ℤ pos t.room) = here t.size t.room (dim ∷ dims) p t.some t.inside in
    let then : (pos 0 ≤ℤ (p +ℤ m)) × ((p +ℤ m) ≤ℤ pos t.room) = here t.size t.room dims (p +ℤ m) t.some.1 all in
    record {
      index_fits = (let e = t.entries.0 in omega (arith, e));
      product_fits = difference_fits p (p +ℤ m) m t.room t.room_fits at.0 at.1 then.0 then.1 refl;
      sum_fits = move_fits t.start t.room (p +ℤ m) (offset +ℤ m) t.room_fits t.start_fits then.0 then.1 (let e : p +ℤ m ≡ pos t.start +ℤ (offset +ℤ m) = omega (arith, ints) in e);
      track = record {
        start = t.start;
        size = t.size;
        room = t.room;
        room_fits = t.room_fits;
        start_fits = t.start_fits;
        some = t.some.1;
        entries = t.entries.1;
        inside = subst (λ q. AllByRecursion (IsInside t.size t.room) (places dims q)) (let e : p +ℤ m ≡ pos t.start +ℤ (offset +ℤ m) = omega (arith, ints) in e) all;
      };
    }

pub entries_fit : (e : ℕ) (dims : List (ℕ × ℤ × ℤ)) → 0 < e → e * extent_of dims < 2 ^ 63 → AllByRecursion (λ (dim : ℕ × ℤ × ℤ). dim.0 < 2 ^ 63) dims
entries_fit e [] h f = tt
entries_fit e ((zero, z, u) ∷ dims) h f = (omega arith, entries_fit e dims h f)
entries_fit e ((suc n, z, u) ∷ dims) h f = (
  let one : suc n ≤ suc n * extent_of dims = le-mul_of_pos_right (suc n) (extent_pos dims) in
      let two : suc n * extent_of dims ≤ suc n * extent_of dims * e = le-mul_of_pos_right (suc n * extent_of dims) h in
      let all : e * (suc n * extent_of dims) < 2 ^ 63 = f in omega (arith, one, two, all),
  entries_fit (e * suc n) dims (mul-pos h (zero-lt-suc n)) (let all : e * (suc n * extent_of dims) < 2 ^ 63 = f in omega (arith, all)),
)

pub track_from_valid : (d : Descriptor) → IsPlaceable d → AreNonzero d.dims → Track d.dims (pos 0)
track_from_valid d can some =
    record {
      start = can.start;
      size = d.itemsize;
      room = can.placed.room;
      room_fits = can.placed.room_fits;
      start_fits = (let at = here d.itemsize can.placed.room d.dims (pos can.start) some (recursion_from_All (IsInside d.itemsize can.placed.room) (places d.dims (pos can.start)) can.placed.valid.inside) in let low = at.1 in omega (arith, ints));
      some = some;
      entries = entries_fit d.itemsize d.dims can.placed.valid.some_size can.placed.valid.extent_fits;
      inside = subst (λ q. AllByRecursion (IsInside d.itemsize can.placed.room) (places d.dims q)) (let e : pos can.start ≡ pos can.start +ℤ pos 0 = omega (arith, ints) in e) (recursion_from_All (IsInside d.itemsize can.placed.room) (places d.dims (pos can.start)) can.placed.valid.inside);
    }
