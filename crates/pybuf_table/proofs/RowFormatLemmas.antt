-- The places of fields, found one after another.
use Rattle.std.proofs.Common.{◌≡◌, ℕ, ◌+◌, ◌≤◌, List, [], ◌∷◌, ◌++◌, get_or, take, Some, IsTrue, sym, ap, ◌∙◌}
use Rattle.std.specs.Prelude.{slice_get}
use Rattle.std.specs.List.{All}
use Rattle.std.proofs.lemmas.List.{take_more}
use Rattle.std.proofs.lemmas.List.Elements.{All-push}
use Rattle.std.proofs.lemmas.Option.{slice_get_within, get_or_from_slice_get}
use Rattle.pybuf_struct.specs.Formats.{Format, Field, fields}
use Rattle.pybuf_struct.specs.Values.{is_length}

-- the places of the first fields
pub record ArePlacesTo (f : Format) (k : ℕ) (places : List Field) : Type 0 where
  pub same : places ≡ take k (fields f)
  pub inside : All (λ place. place.offset + place.length ≤ f.size) places
  pub long : All (λ place. IsTrue (is_length f.order place.code place.length)) places

pub one_more : (f : Format) (k : ℕ) (places : List Field) (place : Field) → ArePlacesTo f k places → Some place ≡ slice_get (fields f) k → place.offset + place.length ≤ f.size
    → IsTrue (is_length f.order place.code place.length) → ArePlacesTo f (k + 1) (places ++ place ∷ [])
one_more f k places place are there inside long =
    let here : get_or (fields f) k place ≡ place = get_or_from_slice_get (fields f) k place place (sym there) in
    let more : take (k + 1) (fields f) ≡ take k (fields f) ++ get_or (fields f) k place ∷ [] = take_more (fields f) k place (slice_get_within (fields f) k place (sym there)) in
    record {
      same = ap (λ (front : List Field). front ++ place ∷ []) are.same ∙ ap (λ (p : Field). take k (fields f) ++ p ∷ []) (sym here) ∙ sym more;
      inside = All-push (λ (p : Field). p.offset + p.length ≤ f.size) places place are.inside inside;
      long = All-push (λ (p : Field). IsTrue (is_length f.order p.code p.length)) places place are.long long;
    }
