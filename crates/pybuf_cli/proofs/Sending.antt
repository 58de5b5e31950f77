-- Texts that are put in pieces.
use Rattle.std.proofs.Common.{◌≡◌, ℕ, ◌≤◌, List, [], ◌++◌, take, drop, length, Option, Some, refl, sym, ◌∙◌, ap, subst, arith}
use Rattle.std.proofs.lemmas.List.{append_assoc, append-nil, length-append, take-append-drop, take_at}
use Rattle.pybuf_cli.specs.Devices.{Put, PutPrefix, Sends}

pub put_nothing : (old : Option (List ℕ)) → Put old [] old
put_nothing old held h = h ∙ ap Some (sym (append-nil held))

pub put_both : (old mid new : Option (List ℕ)) (first second : List ℕ) → Put old first mid → Put mid second new → Put old (first ++ second) new
put_both old mid new first second before after held h = after (held ++ first) (before held h) ∙ ap Some (append_assoc held first second)

-- The front of a text was put.
pub put_front : (old new : Option (List ℕ)) (text front rest : List ℕ) → text ≡ front ++ rest → Put old front new → PutPrefix old text new
put_front old new text front rest e put =
    let fits : length front ≤ length text = omega (arith, ap length e, length-append front rest) in
    let same : front ≡ take (length front) text = sym (ap (take (length front)) e ∙ take_at front rest (length front) refl) in
    let P : List ℕ → Type 0 = λ bytes. Put old bytes new in
    (length front, fits, subst P same put)

ends : (a b c d : List ℕ) → (a ++ (b ++ c)) ++ d ≡ (a ++ b) ++ (c ++ d)
ends a b c d = simp append_assoc

-- One text was put, and then the front of the next.
pub put_then_front : (old mid new : Option (List ℕ)) (text first second rest : List ℕ) → text ≡ (first ++ second) ++ rest →
    Put old first mid → PutPrefix mid second new → PutPrefix old text new
put_then_front old mid new text first second rest e before after =
    let n = after.0 in
    let split : text ≡ (first ++ take n second) ++ (drop n second ++ rest) =
    e ∙ (ap (λ x. (first ++ x) ++ rest) (sym (take-append-drop n second)) ∙ ends first (take n second) (drop n second) rest) in
    put_front old new text (first ++ take n second) (drop n second ++ rest) split (put_both old mid new first (take n second) before after.2)

-- A text that was put completely is its own front.
pub put_whole : (old new : Option (List ℕ)) (text : List ℕ) → Put old text new → PutPrefix old text new
put_whole old new text put = put_front old new text text [] (sym (append-nil text)) put

-- The front of a text that is equal to another was put.
pub front_same : (old new : Option (List ℕ)) (text both : List ℕ) → text ≡ both → PutPrefix old text new → PutPrefix old both new
front_same old new text both same front = subst (λ (x : List ℕ). PutPrefix old x new) same front

-- The front of a text was put, and nothing of the text behind it.
pub front_of_both : (old new : Option (List ℕ)) (first second lent : List ℕ) → lent ≡ first → PutPrefix old lent new →
    PutPrefix old (first ++ second) new
front_of_both old new first second lent e front =
    put_then_front old old new (first ++ second) [] first second refl (put_nothing old) (front_same old new lent first e front)

-- One text was put, and the front of the text behind it.
pub first_and_front : (old mid new : Option (List ℕ)) (first second lent then : List ℕ) → lent ≡ first → then ≡ second → Put old lent mid →
    PutPrefix mid then new → PutPrefix old (first ++ second) new
first_and_front old mid new first second lent then e f put front =
    put_then_front old mid new (first ++ second) lent then []
    (ap (λ x. x ++ second) (sym e) ∙ (ap (λ x. lent ++ x) (sym f) ∙ sym (append-nil (lent ++ then)))) put front

-- Two texts were put, and nothing waits.
pub sends_all : (old mid new : Option (List ℕ)) (first second lent then rest : List ℕ) → lent ≡ first → then ≡ second → Put old lent mid →
    Put mid then new → rest ≡ [] → Sends old (first ++ second) rest new
sends_all old mid new first second lent then rest e f before after none = record {
  sent = lent ++ then;
  whole =
      ap (λ x. x ++ second) (sym e)
      ∙ (ap (λ x. lent ++ x) (sym f) ∙ sym (ap (λ x. (lent ++ then) ++ x) none ∙ append-nil (lent ++ then)));
  put = put_both old mid new lent then before after;
}

-- A text that is two texts together was put, or waits.
pub sends_same : (old new : Option (List ℕ)) (text both rest : List ℕ) → text ≡ both → Sends old text rest new → Sends old both rest new
sends_same old new text both rest same sends = subst (λ (x : List ℕ). Sends old x rest new) same sends

-- No byte is put, and the whole text waits.
pub sends_later : (old : Option (List ℕ)) (text : List ℕ) → Sends old text text old
sends_later old text = record { sent = []; whole = refl; put = put_nothing old }

pub sends_nothing : (old : Option (List ℕ)) → Sends old [] [] old
sends_nothing old = sends_later old []

-- There is one more line, and a part of the text was put.
pub sends_more : (old mid new : Option (List ℕ)) (text waiting line longer sent rest : List ℕ) → Sends old text waiting mid →
    longer ≡ waiting ++ line → longer ≡ sent ++ rest → Put mid sent new → Sends old (text ++ line) rest new
sends_more old mid new text waiting line longer sent rest before e f put = record {
  sent = before.sent ++ sent;
  whole =
      ap (λ x. x ++ line) before.whole
      ∙ (append_assoc before.sent waiting line
      ∙ (ap (λ x. before.sent ++ x) (sym e ∙ f) ∙ sym (append_assoc before.sent sent rest)));
  put = put_both old mid new before.sent sent before.put put;
}

-- What waits is put, and so the whole text is.
pub sends_put : (old mid new : Option (List ℕ)) (text waiting lent : List ℕ) → Sends old text waiting mid → lent ≡ waiting → Put mid lent new → Put old text new
sends_put old mid new text waiting lent sends same put =
    let last : Put mid waiting new = subst (λ (x : List ℕ). Put mid x new) same put in
    subst (λ (x : List ℕ). Put old x new) (sym sends.whole) (put_both old mid new sends.sent waiting sends.put last)

-- What waits is put, with more behind it.
pub sends_then_put : (old mid new : Option (List ℕ)) (text waiting more : List ℕ) → Sends old text waiting mid → Put mid (waiting ++ more) new →
    Put old (text ++ more) new
sends_then_put old mid new text waiting more sends put =
    let whole : text ++ more ≡ sends.sent ++ (waiting ++ more) = ap (λ x. x ++ more) sends.whole ∙ append_assoc sends.sent waiting more in
    subst (λ (x : List ℕ). Put old x new) (sym whole) (put_both old mid new sends.sent (waiting ++ more) sends.put put)

-- The front of what waits is put, and what stands behind it isn't.
pub sends_front : (old mid new : Option (List ℕ)) (text waiting lent rest both : List ℕ) → Sends old text waiting mid → both ≡ text ++ rest →
    lent ≡ waiting → PutPrefix mid lent new → PutPrefix old both new
sends_front old mid new text waiting lent rest both sends is same front =
    put_then_front old mid new both sends.sent waiting rest (is ∙ ap (λ x. x ++ rest) sends.whole) sends.put (front_same mid new lent waiting same front)

-- The front of what waits and of more is put, with still more behind it.
pub sends_then_front : (old mid new : Option (List ℕ)) (text waiting more rest both : List ℕ) → Sends old text waiting mid →
    both ≡ (text ++ more) ++ rest → PutPrefix mid (waiting ++ more) new → PutPrefix old both new
sends_then_front old mid new text waiting more rest both sends is front =
    let whole : text ++ more ≡ sends.sent ++ (waiting ++ more) = ap (λ x. x ++ more) sends.whole ∙ append_assoc sends.sent waiting more in
    put_then_front old mid new both sends.sent (waiting ++ more) rest (is ∙ ap (λ x. x ++ rest) whole) sends.put front
