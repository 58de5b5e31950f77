-- Bytes and fields that stay when others are written.
use Rattle.std.proofs.Common.{◌≡◌, ℕ, zero, suc, ◌+◌, ◌-◌, ◌<◌, ◌≤◌, List, [], ◌∷◌, ◌++◌, length, take, drop, Some, sym, ap, ◌∙◌, subst, inl, inr, ◌⊎◌, arith}
use Rattle.std.specs.Prelude.{slice_get}
use Rattle.std.proofs.lemmas.List.{drop-drop, drop-take, take-take, drop_at, length-take-le, length-drop, length-append}
use Rattle.pybuf_struct.specs.Formats.{Field}
use Rattle.pybuf_struct.specs.Laws.{Spread}
use Rattle.pybuf_desc.specs.Items.{bytes_at}
use Rattle.pybuf_verbs_writes.specs.Laid.{bytes_with}

-- ---- bytes

-- Bytes before a place are those of the front.
pub front : (bytes : List ℕ) (place at count : ℕ) → at + count ≤ place → bytes_at bytes count at ≡ bytes_at (take place bytes) count at
front bytes place at count before =
    sym (drop-take at count bytes) ∙ ap (drop at) (sym (take-take (at + count) place bytes before)) ∙ drop-take at count (take place bytes)

-- Bytes from a place on are those of the back.
pub back : (bytes : List ℕ) (place at count : ℕ) → place ≤ at → bytes_at bytes count at ≡ bytes_at (drop place bytes) count (at - place)
back bytes place at count behind =
    let same : at ≡ place + (at - place) = omega arith in
    ap (λ (p : ℕ). take count (drop p bytes)) same ∙ ap (take count) (sym (drop-drop (at - place) place bytes))

pub bytes_stay : (new old : List ℕ) (place end at count : ℕ) → take place new ≡ take place old → drop end new ≡ drop end old → (at + count ≤ place) ⊎ (end ≤ at) → bytes_at new count at ≡ bytes_at old count at
bytes_stay new old place end at count before behind (inl h) = front new place at count h ∙ ap (λ (bytes : List ℕ). bytes_at bytes count at) before ∙ sym (front old place at count h)
bytes_stay new old place end at count before behind (inr h) = back new end at count h ∙ ap (λ (bytes : List ℕ). bytes_at bytes count (at - end)) behind ∙ sym (back old end at count h)

-- A part of a part is a part of the whole.
pub part_of_part : (bytes : List ℕ) (start size offset len : ℕ) → offset + len ≤ size → bytes_at (bytes_at bytes size start) len offset ≡ bytes_at bytes len (start + offset)
part_of_part bytes start size offset len within = sym (front (drop start bytes) size offset len within) ∙ ap (take len) (drop-drop offset start bytes)

-- ---- a piece over others

pub after_piece : (bytes piece : List ℕ) (start : ℕ) → start ≤ length bytes → drop (start + length piece) (bytes_with bytes start piece) ≡ drop (start + length piece) bytes
after_piece bytes piece start within =
    let long : length (take start bytes ++ piece) ≡ start + length piece = length-append (take start bytes) piece ∙ ap (λ (n : ℕ). n + length piece) (length-take-le start bytes within) in
    drop_at (take start bytes ++ piece) (drop (start + length piece) bytes) (start + length piece) long

pub as_long : (bytes piece : List ℕ) (start : ℕ) → start + length piece ≤ length bytes → length (bytes_with bytes start piece) ≡ length bytes
as_long bytes piece start within =
    let first : length (take start bytes) ≡ start = length-take-le start bytes (omega (arith, within)) in
    let rest : length (drop (start + length piece) bytes) ≡ length bytes - (start + length piece) = length-drop (start + length piece) bytes in
    let two : length (take start bytes ++ piece) ≡ length (take start bytes) + length piece = length-append (take start bytes) piece in
    let all : length (bytes_with bytes start piece) ≡ length (take start bytes ++ piece) + length (drop (start + length piece) bytes) = length-append (take start bytes ++ piece) (drop (start + length piece) bytes) in
    omega (arith, first, rest, two, all, within)

-- ---- fields

spread_end : (p q : ℕ) (fs : List Field) → Spread p fs q → p ≤ q
spread_end p q [] spread = spread
spread_end p q (g ∷ fs) spread =
    let first : p ≤ g.offset = spread.0 in
    let rest : g.offset + g.length ≤ q = spread_end (g.offset + g.length) q fs spread.1 in
    omega (arith, first, rest)

pub spread_inside : (p q : ℕ) (fs : List Field) (k : ℕ) (f : Field) → Spread p fs q → slice_get fs k ≡ Some f → (p ≤ f.offset) × (f.offset + f.length ≤ q)
spread_inside p q [] k f spread is = absurd cc
spread_inside p q (g ∷ fs) zero f spread is =
    let same : g ≡ f = cc in
    subst (λ (h : Field). (p ≤ h.offset) × (h.offset + h.length ≤ q)) same (spread.0, spread_end (g.offset + g.length) q fs spread.1)
spread_inside p q (g ∷ fs) (suc k) f spread is =
    let rest = spread_inside (g.offset + g.length) q fs k f spread.1 is in
    let first : p ≤ g.offset = spread.0 in
    let later : g.offset + g.length ≤ f.offset = rest.0 in
    (omega (arith, first, later), rest.1)

-- The later of two fields begins at the end of the other, or after it.
pub spread_apart : (p q : ℕ) (fs : List Field) (j k : ℕ) (f g : Field) → Spread p fs q → j < k → slice_get fs j ≡ Some f → slice_get fs k ≡ Some g → f.offset + f.length ≤ g.offset
spread_apart p q [] j k f g spread less is other = absurd cc
spread_apart p q (h ∷ fs) j zero f g spread less is other = absurd (omega arith)
spread_apart p q (h ∷ fs) zero (suc k) f g spread less is other =
    let same : h ≡ f = cc in
    subst (λ (x : Field). x.offset + x.length ≤ g.offset) same (spread_inside (h.offset + h.length) q fs k g spread.1 other).0
spread_apart p q (h ∷ fs) (suc j) (suc k) f g spread less is other = spread_apart (h.offset + h.length) q fs j k f g spread.1 (omega arith) is other
