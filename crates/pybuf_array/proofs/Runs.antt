-- A run goes on by one operation.
use Rattle.std.proofs.Common.{◌≡◌, ℕ, ◌+◌, ◌<◌, List, [], ◌∷◌, ◌++◌, length, take, get_or, ap, sym, ◌∙◌, refl, append_assoc}
use Rattle.std.proofs.lemmas.List.{take_more}
use Rattle.pybuf_array.specs.declared.operations.ArrayOp.{ArrayOp}
use Rattle.pybuf_array.specs.declared.operations.ArrayReply.{ArrayReply}
use Rattle.pybuf_array.specs.Array.{Array}
use Rattle.pybuf_array.specs.Operations.{astep, array_after_all, replies_of}

-- The array and the replies are those of the operations so far.
pub record IsRun (old : Array) (ops : List ArrayOp) (new : Array) (before replies : List ArrayReply) : Type 0 where
  pub array : new ≡ array_after_all old ops
  pub replied : replies ≡ before ++ replies_of old ops

-- one list of ops after another
after_all-append : (w : Array) (xs ys : List ArrayOp) → array_after_all w (xs ++ ys) ≡ array_after_all (array_after_all w xs) ys
after_all-append w [] ys = refl
after_all-append w (x ∷ xs) ys = after_all-append (astep w x).0 xs ys

replies_of-append : (w : Array) (xs ys : List ArrayOp) → replies_of w (xs ++ ys) ≡ replies_of w xs ++ replies_of (array_after_all w xs) ys
replies_of-append w [] ys = refl
replies_of-append w (x ∷ xs) ys = ap (λ rs. (astep w x).1 ∷ rs) (replies_of-append (astep w x).0 xs ys)

-- the array after one operation more
after_one_more : (w : Array) (cs : List ArrayOp) (i : ℕ) (c : ArrayOp) → i < length cs → c ≡ get_or cs i c → array_after_all w (take (i + 1) cs) ≡ (astep (array_after_all w (take i cs)) c).0
after_one_more w cs i c below is =
    ap (array_after_all w) (take_more cs i c below ∙ ap (λ x. take i cs ++ x ∷ []) (sym is)) ∙ after_all-append w (take i cs) (c ∷ [])

replies_of_one_more : (w : Array) (cs : List ArrayOp) (i : ℕ) (c : ArrayOp) → i < length cs → c ≡ get_or cs i c → replies_of w (take (i + 1) cs) ≡ replies_of w (take i cs) ++ (astep (array_after_all w (take i cs)) c).1 ∷ []
replies_of_one_more w cs i c below is =
    ap (replies_of w) (take_more cs i c below ∙ ap (λ x. take i cs ++ x ∷ []) (sym is)) ∙ replies_of-append w (take i cs) (c ∷ [])

-- A run goes on by one operation.
pub one_more : (old w after : Array) (cs : List ArrayOp) (i : ℕ) (c : ArrayOp) (r : ArrayReply) (before rs more : List ArrayReply)
    → IsRun old (take i cs) w before rs → i < length cs → c ≡ get_or cs i c → astep w c ≡ (after, r) → more ≡ rs ++ r ∷ [] → IsRun old (take (i + 1) cs) after before more
one_more old w after cs i c r before rs more run below at stepped pushed =
    let here : astep (array_after_all old (take i cs)) c ≡ (after, r) = ap (λ (x : Array). astep x c) (sym run.array) ∙ stepped in
    let array : (astep (array_after_all old (take i cs)) c).0 ≡ after = ap (λ (p : Array × ArrayReply). p.0) here in
    let reply : (astep (array_after_all old (take i cs)) c).1 ≡ r = ap (λ (p : Array × ArrayReply). p.1) here in
    record {
      array = sym (after_one_more old cs i c below at ∙ array);
      replied =
          pushed ∙ ap (λ (xs : List ArrayReply). xs ++ r ∷ []) run.replied
          ∙ append_assoc before (replies_of old (take i cs)) (r ∷ [])
          ∙ ap (λ (x : ArrayReply). before ++ (replies_of old (take i cs) ++ x ∷ [])) (sym reply)
          ∙ ap (λ (xs : List ArrayReply). before ++ xs) (sym (replies_of_one_more old cs i c below at));
    }
