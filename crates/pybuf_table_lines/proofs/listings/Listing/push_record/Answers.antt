use Rattle.std.proofs.Common.{◌≡◌, ◌++◌, ℕ, ◌<◌, OnOk, List, sym, ◌∙◌, ap, subst}
use Rattle.std.specs.Prelude.{None}
use Rattle.pybuf_struct.specs.Values.{values}
use Rattle.pybuf_table_lines.specs.Listings.{Listing}
use Rattle.pybuf_table_lines.specs.Texts.{row_line, listing_text}
use Rattle.pybuf_table_lines.proofs.Listed.{text_of_all}
use Rattle.pybuf_table_lines.proofs.listings.Listing.push_record.Goals as goal

pub returns-in_ok-row-in-None : goal.returns-in_ok-row-in-None
returns-in_ok-row-in-None c =
    let l = c.args.self.now in
    let all : l.query ≡ None = sym (ap (λ (x : Listing). x.query) c.self.view_is) ∙ c.in-None.is in
    let some : 0 < l.records.format.size =
    subst (λ (n : ℕ). 0 < n) (ap (λ (x : Listing). x.records.format.size) c.self.view_is) c.self.invariant.format.some_size in
    let row : row_line c.in_ok-row-in-None.row ≡ listing_text l c.args.bytes.now =
    ap row_line c.in_ok-row-in-None.ensures
    ∙ (ap (λ (x : Listing). row_line (values x.records.format c.args.bytes.now)) c.self.view_is
    ∙ sym (text_of_all l c.args.bytes.now all some c.requires)) in
    subst (λ (x : List ℕ). OnOk c.push_row_line.result (c.push_row_line.new.out.items ≡ c.args.out.now.items ++ x)) row c.push_row_line.ensures
