use Rattle.std.proofs.Common.{◌<◌, ℕ, sym, ◌∙◌, subst}
use Rattle.pybuf_memoryview.proofs.First.{start_is_first, first_of_no_bytes, some_items, some_of}
use Rattle.pybuf_memoryview.proofs.Runs.{content_from, ends_from}
use Rattle.pybuf_memoryview.proofs.content.first_place.Goals as goal

pub returns-then-nbytes-eq0 : goal.returns-then-nbytes-eq0
returns-then-nbytes-eq0 c =
    let placed = c.placed-start.ensures in
    let size : 0 < c.args.layout.now.itemsize = subst (λ (n : ℕ). 0 < n) placed.stands.itemsize placed.placed.valid.some_size in
    let value = first_of_no_bytes c.args.layout.now placed.counted size (sym c.nbytes.ensures ∙ c.if-nbytes-eq0.true) in record {
      value = value;
      counted = placed.counted;
      content = λ bytes. content_from bytes c.args.layout.now 0 placed.counted c.requires value;
      inside = λ room held. ends_from room c.args.layout.now 0 placed.counted c.requires value held;
    }

pub returns : goal.returns
returns c =
    let placed = c.placed-start.ensures in
    let some : 0 < c.nbytes.result = some_of c.nbytes.result c.if-nbytes-eq0.false in
    let items = some_items c.args.layout.now (subst (λ (n : ℕ). 0 < n) c.nbytes.ensures some) in
    let value = start_is_first c.placed-start.result.0.now c.placed-start.result.1 c.args.layout.now placed.stands items in record {
      value = value;
      counted = placed.counted;
      content = λ bytes. content_from bytes c.args.layout.now c.placed-start.result.1 placed.counted c.requires value;
      inside = λ room held. ends_from room c.args.layout.now c.placed-start.result.1 placed.counted c.requires value held;
    }
