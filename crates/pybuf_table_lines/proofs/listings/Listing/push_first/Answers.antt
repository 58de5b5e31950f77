use Rattle.std.proofs.Common.{◌≡◌, ℕ, ◌<◌, ◌≤◌, ◌%◌, List, take, drop, length, ap, ◌∙◌, subst}
use Rattle.pybuf_table_lines.specs.Listings.{Listing}
use Rattle.pybuf_table_lines.proofs.Listed.{has_record, whole_behind, text_first}
use Rattle.pybuf_table_lines.proofs.listings.Listing.push_first.Goals as goal

pub returns-clause-text : goal.returns-clause-text
returns-clause-text c =
    let l = c.args.self.now in
    let size : c.size.result ≡ l.records.format.size = c.size.ensures.value ∙ ap (λ (x : Listing). x.records.format.size) c.self.view_is in
    let some : 0 < l.records.format.size = subst (λ (n : ℕ). 0 < n) size c.size.ensures.some in
    let within : l.records.format.size ≤ length c.args.bytes.now = has_record l.records.format c.args.bytes.now some c.requires.whole c.requires.some in
    text_first l c.args.bytes.now c.split_at.result.0.now c.split_at.result.1.now c.args.out.now.items c.push_record.new.out.items some within
    (c.split_at.ensures.front ∙ ap (λ (n : ℕ). take n c.args.bytes.now) size) (c.split_at.ensures.back ∙ ap (λ (n : ℕ). drop n c.args.bytes.now) size)
    c.in_ok-push_record.ensures

pub returns-clause-whole : goal.returns-clause-whole
returns-clause-whole c =
    let l = c.args.self.now in
    let f = l.records.format in
    let size : c.size.result ≡ f.size = c.size.ensures.value ∙ ap (λ (x : Listing). x.records.format.size) c.self.view_is in
    let some : 0 < f.size = subst (λ (n : ℕ). 0 < n) size c.size.ensures.some in
    let within : f.size ≤ length c.args.bytes.now = has_record f c.args.bytes.now some c.requires.whole c.requires.some in
    let behind : c.split_at.result.1.now ≡ drop f.size c.args.bytes.now = c.split_at.ensures.back ∙ ap (λ (n : ℕ). drop n c.args.bytes.now) size in
    ap (λ (x : List ℕ). length x % f.size) behind ∙ whole_behind f c.args.bytes.now within c.requires.whole
