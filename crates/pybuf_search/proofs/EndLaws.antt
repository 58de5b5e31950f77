-- A prefix and what is left without it make up the bytes. So do what is left without a suffix and the suffix.
use Rattle.std.proofs.Common.{◌≡◌, ℕ, ◌+◌, ◌-◌, ◌≤◌, true, List, [], ◌++◌, length, take, drop, sym, ap, ◌∙◌, arith, ⊎_elim, take-append-drop}
use Rattle.std.proofs.lemmas.Bool.{cases_Bool, cond-true, cond-false}
use Rattle.std.proofs.lemmas.List.{append-nil, length-append}
use Rattle.std.proofs.lemmas.List.Prefix.{at_reads, front_rest, front_fits, end_rest, end_from_reads}
use Rattle.memchr.proofs.lemmas.MatchLemmas.{OccursAt-true, OccursAt-split, occurs_at-true}
use Rattle.pybuf_search.specs.Ends.{begins_with, ends_with}
use Rattle.pybuf_search.specs.Laws.{PrefixIsRemoved, SuffixIsRemoved}
use Rattle.pybuf_search.proofs.CutLemmas.{Decides-ends_with}

-- Bytes that begin with a prefix have it at place 0.
begins : (bytes prefix rest : List ℕ) → bytes ≡ prefix ++ rest → begins_with bytes prefix ≡ true
begins bytes prefix rest e =
    occurs_at-true bytes prefix 0 (record {
      fits = omega (arith, front_fits bytes prefix rest e);
      reads = at_reads 0 bytes prefix 0 rest e;
    })

pub prefix_is_removed : (bytes prefix : List ℕ) → PrefixIsRemoved bytes prefix
prefix_is_removed bytes prefix = record {
  whole = λ h. ap (λ l. prefix ++ l) (cond-true _ _ _ (begins bytes prefix h.0 h.1) ∙ front_rest bytes prefix h.0 h.1) ∙ sym h.1;
  same = λ none. ⊎_elim
      (λ yes. absurd (none (drop (0 + length prefix) bytes, OccursAt-split bytes prefix 0 (OccursAt-true bytes prefix 0 yes))))
      (λ no. cond-false _ _ _ no)
      (cases_Bool (begins_with bytes prefix));
}

-- Bytes that end with a suffix have it at their end.
ends : (bytes suffix rest : List ℕ) → bytes ≡ rest ++ suffix → ends_with bytes suffix ≡ true
ends bytes suffix rest e =
    let long : length suffix ≤ length bytes = omega (arith, ap length e, length-append rest suffix) in
    (Decides-ends_with bytes suffix).1 (
      long,
      record {
        fits = omega arith;
        reads = at_reads 0 bytes suffix (length bytes - length suffix) [] (end_rest bytes suffix rest e ∙ sym (append-nil suffix));
      },
    )

pub suffix_is_removed : (bytes suffix : List ℕ) → SuffixIsRemoved bytes suffix
suffix_is_removed bytes suffix =
    let front : List ℕ = take (length bytes - length suffix) bytes in record {
      whole = λ h. ap (λ l. l ++ suffix) (cond-true _ _ _ (ends bytes suffix h.0 h.1))
          ∙ ap (λ l. front ++ l) (sym (end_rest bytes suffix h.0 h.1))
          ∙ take-append-drop (length bytes - length suffix) bytes;
      same = λ none. ⊎_elim
          (λ yes. let stands = (Decides-ends_with bytes suffix).0 yes in
          absurd (none (front, end_from_reads 0 bytes suffix stands.0 (stands.1).reads)))
          (λ no. cond-false _ _ _ no)
          (cases_Bool (ends_with bytes suffix));
    }
