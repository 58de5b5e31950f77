-- What stands at the front of a list, and what is left behind it.
use Rattle.std.proofs.Common.{◌≡◌, ℕ, ◌+◌, ◌-◌, ◌<◌, ◌≤◌, ◌^◌, Bool, true, false, List, [], ◌++◌, take, drop, length, Option, Some, Result, Ok, Err, refl, sym, ◌∙◌, ap, subst, arith}
use Rattle.std.proofs.lemmas.List.{take-append-drop, drop-drop, take_rest, take-take, append_assoc, length-take, length-drop}
use Rattle.std.proofs.Math.Seq.{take-add}
use Rattle.pybuf_cli.specs.Devices.{Took, Put, Counts}
use Rattle.pybuf_cli.specs.declared.devices.PutFault.{PutFault}
use Rattle.pybuf_cli.specs.declared.devices.PutFault.TheVariants as fault

-- What was moved is the front of what was left, and what is left now is the rest.
pub took_front : (left rest front : List ℕ) (count : ℕ) → front ≡ take count left → rest ≡ drop count left → Took (Some left) front (Some rest)
took_front left rest front count moved stays l h =
    let here : l ≡ left = cc in
    (rest, here ∙ (sym (take-append-drop count left) ∙ (ap (λ x. x ++ drop count left) (sym moved) ∙ ap (λ x. front ++ x) (sym stays))), refl)

-- The slice of the bytes from a place on is what is left there.
pub lent_rest : (left bytes lent : List ℕ) (taken : ℕ) → drop taken bytes ≡ left → lent ≡ bytes →
    take (length lent - taken) (drop taken lent) ≡ left
lent_rest left bytes lent taken view same =
    ap (λ x. take (length x - taken) (drop taken x)) same ∙ (take_rest bytes taken ∙ view)

-- what is left after more bytes were moved
pub left_after : (left bytes : List ℕ) (taken count : ℕ) → drop taken bytes ≡ left → drop (taken + count) bytes ≡ drop count left
left_after left bytes taken count view = sym (drop-drop count taken bytes) ∙ ap (drop count) view

-- the count that is shown before a call, and the count after it
pub counted : (shown before after : ℕ) → before ≡ shown → before ≤ after → after < 2 ^ 64 → Counts shown after
counted shown before after same later bounded = record { later = omega (arith, same, later); bounded = bounded }

-- A call that wasn't told to fail ended in another way.
didnt_fail : (asked told : Bool) (r : Result ℕ PutFault) → asked ≡ told → asked ≡ false → (r ≡ Err fault.Failed → ⊥) →
    (r ≡ Err fault.Failed → told ≡ true) × (told ≡ true → r ≡ Err fault.Failed)
didnt_fail asked told r same off other = (λ e. absurd (other e), λ on. absurd (let bad : true ≡ false = sym on ∙ (sym same ∙ off) in cc))

pub moved_some : (asked told : Bool) (r : Result ℕ PutFault) (count : ℕ) → r ≡ Ok count → asked ≡ told → asked ≡ false →
    (r ≡ Err fault.Failed → told ≡ true) × (told ≡ true → r ≡ Err fault.Failed)
moved_some asked told r count is same off =
    didnt_fail asked told r same off (λ e. let bad : Ok count ≡ Err fault.Failed = sym is ∙ e in cc)

pub found_no_memory : (asked told : Bool) (r : Result ℕ PutFault) → r ≡ Err fault.NoMemory → asked ≡ told → asked ≡ false →
    (r ≡ Err fault.Failed → told ≡ true) × (told ≡ true → r ≡ Err fault.Failed)
found_no_memory asked told r is same off =
    didnt_fail asked told r same off (λ e. let bad : Err fault.NoMemory ≡ Err fault.Failed = sym is ∙ e in cc)

-- No byte was taken yet.
pub took_nothing : (old : Option (List ℕ)) → Took old [] old
took_nothing old left told = (left, refl, told)

-- No more bytes were taken since.
pub took_still : (old mid new : Option (List ℕ)) (bytes : List ℕ) → new ≡ mid → Took old bytes mid → Took old bytes new
took_still old mid new bytes same took = subst (λ (left : Option (List ℕ)). Took old bytes left) (sym same) took

-- The front of a text was taken, and then the front of a piece of the rest.
pub take_further : (text : List ℕ) (at count room : ℕ) → count ≤ length (take room (drop at text)) →
    take at text ++ take count (take room (drop at text)) ≡ take (at + count) text
take_further text at count room within =
    let less : count ≤ room = grind (arith, length-take room (drop at text)) in
    ap (λ x. take at text ++ x) (take-take count room (drop at text) less) ∙ sym (take-add at count text)

-- More bytes were put.
pub put_further : (old mid new : Option (List ℕ)) (text : List ℕ) (at count room : ℕ) → count ≤ length (take room (drop at text)) →
    Put old (take at text) mid → Put mid (take count (take room (drop at text))) new → Put old (take (at + count) text) new
put_further old mid new text at count room within before after held h =
    let then : new ≡ Some ((held ++ take at text) ++ take count (take room (drop at text))) = after (held ++ take at text) (before held h) in
    then ∙ ap Some (append_assoc held (take at text) (take count (take room (drop at text))) ∙ ap (λ x. held ++ x) (take_further text at count room within))

pub within_text : (text : List ℕ) (at count room : ℕ) → count ≤ length (take room (drop at text)) → at ≤ length text → at + count ≤ length text
within_text text at count room within here = grind (arith, length-take room (drop at text), length-drop at text)
