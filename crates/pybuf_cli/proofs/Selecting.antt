-- Bytes in a shape: what was read and put, if the source tells its bytes, and over bytes in memory.
use Rattle.std.proofs.Common.{◌≡◌, ◌≢◌, ℕ, ◌≤◌, List, [], length, Option, Some, sym, ◌∙◌, ap, subst, arith}
use Rattle.pybuf_nd_lines.specs.Selections.{Selection, bytes_due, selection_text}
use Rattle.pybuf_nd_lines.specs.Texts.{misfit_text}
use Rattle.pybuf_cli.specs.Devices.{Took, AtEnd, Put}
use Rattle.pybuf_cli.specs.Program.{most}
use Rattle.pybuf_cli.specs.Nd.{IsSelected, IsMisfit}
use Rattle.pybuf_cli.proofs.Served.{took_all, held_is}

pub selected_all : (s : Selection) (old new held_before held : Option (List ℕ)) (input bytes lent : List ℕ) → Took old bytes new → AtEnd new →
    length bytes ≤ most → lent ≡ bytes → ((length lent ≡ bytes_due s) × Put held_before (selection_text s lent) held) →
    old ≡ Some input → IsSelected s input new held_before held
selected_all s old new held_before held input bytes lent took end short same done told =
    let all = took_all old new input bytes took end told in
    let one : lent ≡ input = same ∙ all.0 in
    record {
      all_read = all.1;
      short = omega (arith, short, ap length all.0);
      fits = sym (ap length one) ∙ done.0;
      put = subst (λ (x : List ℕ). Put held_before (selection_text s x) held) one done.1;
    }

pub misfit_told : (s : Selection) (old new held_before held : Option (List ℕ)) (input bytes lent : List ℕ) → Took old bytes new → AtEnd new →
    length bytes ≤ most → lent ≡ bytes → ((length lent ≢ bytes_due s) × Put held_before (misfit_text (length lent) (bytes_due s)) held) →
    old ≡ Some input → IsMisfit s input new held_before held
misfit_told s old new held_before held input bytes lent took end short same bad told =
    let all = took_all old new input bytes took end told in
    let one : lent ≡ input = same ∙ all.0 in
    record {
      all_read = all.1;
      short = omega (arith, short, ap length all.0);
      differs = subst (λ (x : List ℕ). length x ≢ bytes_due s) one bad.0;
      put = subst (λ (x : List ℕ). Put held_before (misfit_text (length x) (bytes_due s)) held) one bad.1;
    }

-- ---- bytes in memory

pub quiet_selected : (s : Selection) (input told held_before held out : List ℕ) (left : Option (List ℕ)) → told ≡ input → held_before ≡ [] → out ≡ held →
    IsSelected s told left (Some held_before) (Some held) → (length input ≡ bytes_due s) × (out ≡ selection_text s input)
quiet_selected s input told held_before held out left same empty kept done = (
  sym (ap length same) ∙ done.fits,
  kept ∙ (held_is held_before held (selection_text s told) empty done.put ∙ ap (selection_text s) same),
)

pub quiet_misfit : (s : Selection) (input told held_before held out : List ℕ) (left : Option (List ℕ)) → told ≡ input → held_before ≡ [] → out ≡ held →
    IsMisfit s told left (Some held_before) (Some held) → (length input ≢ bytes_due s) × (out ≡ misfit_text (length input) (bytes_due s))
quiet_misfit s input told held_before held out left same empty kept bad = (
  subst (λ (x : List ℕ). length x ≢ bytes_due s) same bad.differs,
  kept ∙ (held_is held_before held (misfit_text (length told) (bytes_due s)) empty bad.put ∙ ap (λ (x : List ℕ). misfit_text (length x) (bytes_due s)) same),
)
