use Rattle.std.proofs.Common.{ap₂, List, ℕ}
use Rattle.std.specs.List.{zip}
use Rattle.std.specs.declared.ops.Range.{Range}
use Rattle.pybuf_desc.proofs.PairFacts.{pairs_from}
use Rattle.pybuf_desc.proofs.descriptor.BufferDescriptor.zip_segments.Goals as goal

pub returns-clause-first : goal.returns-clause-first
returns-clause-first c =
    (pairs_from c.args.self.now c.args.other.now c.args.start c.args.other_start c.joined_of_both-joined.result c.args.join (zip c.joined_segments.result c.joined_segments-2.result) c.requires.placed c.requires.other_placed c.requires.same_shape
    c.joined_of_both-joined.ensures.few c.joined_of_both-joined.ensures.other_few c.joined_of_both-joined.ensures.whole
    (ap₂ (λ (xs ys : List (Range ℕ)). zip xs ys) c.joined_segments.ensures.ranges c.joined_segments-2.ensures.ranges)).first

pub returns-clause-second : goal.returns-clause-second
returns-clause-second c =
    (pairs_from c.args.self.now c.args.other.now c.args.start c.args.other_start c.joined_of_both-joined.result c.args.join (zip c.joined_segments.result c.joined_segments-2.result) c.requires.placed c.requires.other_placed c.requires.same_shape
    c.joined_of_both-joined.ensures.few c.joined_of_both-joined.ensures.other_few c.joined_of_both-joined.ensures.whole
    (ap₂ (λ (xs ys : List (Range ℕ)). zip xs ys) c.joined_segments.ensures.ranges c.joined_segments-2.ensures.ranges)).second

pub returns-clause-bytes : goal.returns-clause-bytes
returns-clause-bytes c =
    (pairs_from c.args.self.now c.args.other.now c.args.start c.args.other_start c.joined_of_both-joined.result c.args.join (zip c.joined_segments.result c.joined_segments-2.result) c.requires.placed c.requires.other_placed c.requires.same_shape
    c.joined_of_both-joined.ensures.few c.joined_of_both-joined.ensures.other_few c.joined_of_both-joined.ensures.whole
    (ap₂ (λ (xs ys : List (Range ℕ)). zip xs ys) c.joined_segments.ensures.ranges c.joined_segments-2.ensures.ranges)).bytes

pub returns-clause-other_bytes : goal.returns-clause-other_bytes
returns-clause-other_bytes c =
    (pairs_from c.args.self.now c.args.other.now c.args.start c.args.other_start c.joined_of_both-joined.result c.args.join (zip c.joined_segments.result c.joined_segments-2.result) c.requires.placed c.requires.other_placed c.requires.same_shape
    c.joined_of_both-joined.ensures.few c.joined_of_both-joined.ensures.other_few c.joined_of_both-joined.ensures.whole
    (ap₂ (λ (xs ys : List (Range ℕ)). zip xs ys) c.joined_segments.ensures.ranges c.joined_segments-2.ensures.ranges)).other_bytes

pub returns-clause-byte_by_byte : goal.returns-clause-byte_by_byte
returns-clause-byte_by_byte c =
    (pairs_from c.args.self.now c.args.other.now c.args.start c.args.other_start c.joined_of_both-joined.result c.args.join (zip c.joined_segments.result c.joined_segments-2.result) c.requires.placed c.requires.other_placed c.requires.same_shape
    c.joined_of_both-joined.ensures.few c.joined_of_both-joined.ensures.other_few c.joined_of_both-joined.ensures.whole
    (ap₂ (λ (xs ys : List (Range ℕ)). zip xs ys) c.joined_segments.ensures.ranges c.joined_segments-2.ensures.ranges)).byte_by_byte
