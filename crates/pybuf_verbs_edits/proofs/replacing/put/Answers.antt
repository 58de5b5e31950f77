use Rattle.std.proofs.Common.{rules, ◌≡◌, ◌≢◌, ◌≤◌, ℕ, List, length, pos, ap, sym, ◌∙◌, arith}
use Rattle.pybuf_state.specs.Exporter.{Exporter}
use Rattle.pybuf_slice.specs.Edits.{replaced_range}
use Rattle.pybuf_verbs_edits.proofs.Still.{not_as_long}
use Rattle.pybuf_verbs_edits.proofs.replacing.put.Goals as goal

pub returns-clause-paid : goal.returns-clause-paid
returns-clause-paid g c =
    let d = c.adjust_indices-step in
    let old : List ℕ = c.args.parts.now.bytes.items in
    let new : List ℕ = c.replace_range.new.self.bytes.items in
    let bytes : List ℕ = c.args.bytes.now in
    let other : d.result.2 ≢ length bytes = search rules in
    let one : d.result.1 ≡ pos 1 = search rules in
    let inside : d.result.0.end ≤ length old = omega (arith, d.ensures.within, c.len.ensures.value) in
    let is : new ≡ replaced_range old d.result.0.start d.result.0.end bytes = ap (λ (e : Exporter). e.bytes) c.in_ok-replace_range.ensures.ok in
    let longer : length new ≡ length old → ⊥ = not_as_long old new bytes d.result.0.start d.result.0.end d.result.2 d.result.1 one d.ensures.ordered inside (d.ensures.count ∙ ap (λ (xs : List ℕ). length xs) (sym d.ensures.picks)) other is in
    record {
      few = c.in_ok-replace_range.ensures.counter;
      err_room = tt;
      err_counter = tt;
      still_room = λ same. absurd (longer same);
      still_counter = λ same. absurd (longer same);
    }
