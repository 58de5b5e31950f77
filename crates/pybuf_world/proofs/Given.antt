-- Each name that was given is of an exporter that is there, or of a view or an iterator that such an exporter
-- has.
use Rattle.std.proofs.Common.{◌≡◌, ℕ, ◌<◌, Bool, true, false, true≢false, List, [], ◌∷◌, ◌++◌, length, set, ap, sym, ◌∙◌, refl, subst}
use Rattle.std.specs.Prelude.{◌==◌, Some, slice_get}
use Rattle.std.specs.List.{All}
use Rattle.std.proofs.lemmas.Bool.{eqb-true, eq-eqb}
use Rattle.std.proofs.lemmas.Option.{slice_get_within}
use Rattle.std.proofs.lemmas.List.Elements.{All-weaker}
use Rattle.pybuf_lemmas.proofs.Lists.{get-left, element_after_set}
use Rattle.pybuf_command.specs.declared.kinds.Subject.{Subject}
use Rattle.pybuf_state.specs.Exporter.{Exporter, has_subject}
use Rattle.pybuf_world.specs.declared.named.Named.{Named}
use Rattle.pybuf_world.specs.World.{exporter_of, subject_of}
use Rattle.pybuf_world.specs.Sound.{IsGiven}
use Rattle.pybuf_world.proofs.Handles.{NameExporters}
use Rattle.pybuf_world.proofs.Lists.{slice_get-push, slice_get-set_other}

-- The second exporter has everything that the first has.
abbrev pub HasAllOf : Exporter → Exporter → Type 0
HasAllOf old new = (s : Subject) → has_subject old s ≡ true → has_subject new s ≡ true

-- The exporters of the names are there.
pub name_exporters : (es : List Exporter) (handles : List Named) → All (IsGiven es) handles → NameExporters (length es) handles
name_exporters es handles given =
    All-weaker (IsGiven es) (λ (n : Named). exporter_of n < length es) (λ n is. slice_get_within es (exporter_of n) is.exporter is.there) handles given

-- ---- one more exporter

with_more : (es : List Exporter) (e : Exporter) (n : Named) → IsGiven es n → IsGiven (es ++ e ∷ []) n
with_more es e n is = record {
  exporter = is.exporter;
  there = get-left es (e ∷ []) (exporter_of n) (slice_get_within es (exporter_of n) is.exporter is.there) ∙ is.there;
  has = is.has;
}

pub all_with_more : (es : List Exporter) (e : Exporter) (handles : List Named) → All (IsGiven es) handles → All (IsGiven (es ++ e ∷ [])) handles
all_with_more es e handles given = All-weaker (IsGiven es) (IsGiven (es ++ e ∷ [])) (with_more es e) handles given

-- a name of the new exporter, or of what it has
pub of_last : (es : List Exporter) (e : Exporter) (n : Named) → exporter_of n ≡ length es → has_subject e (subject_of n) ≡ true → IsGiven (es ++ e ∷ []) n
of_last es e n at has = record { exporter = e; there = ap (slice_get (es ++ e ∷ [])) at ∙ slice_get-push es e; has = has }

-- ---- an exporter that replaces another

-- a name of the new exporter, or of what it has
pub of_set : (es : List Exporter) (i : ℕ) (old new : Exporter) (n : Named) → slice_get es i ≡ Some old → exporter_of n ≡ i → has_subject new (subject_of n) ≡ true → IsGiven (set es i new) n
of_set es i old new n at same has = record { exporter = new; there = ap (slice_get (set es i new)) same ∙ element_after_set es i old new at; has = has }

with_set : (es : List Exporter) (i : ℕ) (old new : Exporter) (n : Named) (b : Bool) → (exporter_of n == i) ≡ b → slice_get es i ≡ Some old → HasAllOf old new → IsGiven es n → IsGiven (set es i new) n
with_set es i old new n true equal at stays is =
    let same : exporter_of n ≡ i = eqb-true (exporter_of n) i equal in
    let found : Some is.exporter ≡ Some old = sym is.there ∙ ap (slice_get es) same ∙ at in
    let is_old : is.exporter ≡ old = cc in
    of_set es i old new n at same (stays (subject_of n) (subst (λ (x : Exporter). has_subject x (subject_of n) ≡ true) is_old is.has))
with_set es i old new n false equal at stays is = record {
  exporter = is.exporter;
  there = slice_get-set_other es i (exporter_of n) new (λ same. true≢false (sym (eq-eqb (exporter_of n) i (sym same)) ∙ equal)) ∙ is.there;
  has = is.has;
}

pub all_with_set : (es : List Exporter) (i : ℕ) (old new : Exporter) (handles : List Named) → slice_get es i ≡ Some old → HasAllOf old new → All (IsGiven es) handles → All (IsGiven (set es i new)) handles
all_with_set es i old new handles at stays given =
    All-weaker (IsGiven es) (IsGiven (set es i new)) (λ n is. with_set es i old new n (exporter_of n == i) refl at stays is) handles given
