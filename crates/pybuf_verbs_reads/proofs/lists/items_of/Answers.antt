use Rattle.std.proofs.Common.{◌≡◌, ◌<◌, ℕ, List, sym, ◌∙◌, subst}
use Rattle.std.specs.Prelude.{IfOk}
use Rattle.pybuf_value.specs.declared.values.Item.{Item}
use Rattle.pybuf_verbs_reads.proofs.ItemRuns.{content_listed, ReadsAs}
use Rattle.pybuf_verbs_reads.proofs.lists.items_of.Goals as goal

pub returns : goal.returns
returns c = λ bytes inside is.
    let d = c.placed.result.0.now in
    let size : ℕ = c.itemsize-size.result in
    let same : size ≡ c.args.layout.now.itemsize = c.itemsize-size.ensures ∙ c.placed.ensures.stands.itemsize in
    let some : 0 < size = subst (λ (k : ℕ). 0 < k) (sym c.itemsize-size.ensures) c.placed.ensures.placed.valid.some_size in
    let reads : ReadsAs c.in_ok-reader.reader c.args.layout.now.format size =
    subst (λ (text : List ℕ). ReadsAs c.in_ok-reader.reader text size) c.format_text.ensures c.in_ok-reader.ensures.reads in
    subst (λ (xs : List Item). IfOk c.items_of_run.result (λ items. items ≡ xs))
    (content_listed c.in_ok-reader.reader c.args.layout.now size bytes c.args.content.now same some reads inside is)
    c.items_of_run.ensures
