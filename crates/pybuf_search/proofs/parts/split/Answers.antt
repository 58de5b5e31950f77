use Rattle.std.proofs.Common.{◌≡◌, ◌++◌, ◌<◌, ◌^◌, length, sym, ap, ◌∙◌, arith}
use Rattle.std.proofs.Common.{w64}
use Rattle.std.proofs.lemmas.Int.{to_z-of_z}
use Rattle.std.proofs.lemmas.List.{append-nil}
use Rattle.bstr.specs.Text.{splitn_at}
use Rattle.pybuf_search.specs.Matches.{matches_from_left}
use Rattle.pybuf_search.specs.Parts.{parts_allowed}
use Rattle.pybuf_search.proofs.CutLemmas.{split-allowed}
use Rattle.pybuf_search.proofs.parts.split.Goals as goal

pub returns : goal.returns
returns c =
    let ended = c.in_default.ensures.steps in
    let small : length c.args.bytes.now < 2 ^ 63 = omega arith in
    let all : c.parts.lists.items ++ c.parts.parts ≡ c.splitn_str-parts.result = c.parts.invariant in
    let given =
    sym (append-nil c.parts.lists.items)
    ∙ ap (λ l. c.parts.lists.items ++ l) (sym ended.0)
    ∙ all
    ∙ c.splitn_str-parts.ensures.value
    ∙ ap (λ n. splitn_at c.args.bytes.now (length c.args.separator.now) 0 (matches_from_left c.args.bytes.now c.args.separator.now) n) (c.parts_allowed.ensures ∙ ap parts_allowed (to_z-of_z w64 c.args.most c.ranges.most))
    ∙ split-allowed c.args.most c.args.separator.now c.args.bytes.now small in
    c.from_vec-2.ensures ∙ given
