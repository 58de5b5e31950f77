use Rattle.std.proofs.Common.{◌≡◌, ◌-◌, ◌*◌, ◌<◌, ◌^◌, length, take, drop, pos, sym, ◌∙◌, ap, ap₂, subst, arith, ℕ, ℤ, List, map, flat_map, true≢false}
use Rattle.std.specs.List.{AllByRecursion}
use Rattle.std.specs.declared.ops.Range.{Range}
use Rattle.pybuf_desc.specs.Layouts.{product}
use Rattle.pybuf_desc.specs.Descriptor.{shape_of}
use Rattle.pybuf_desc.specs.Places.{places}
use Rattle.pybuf_desc.specs.Valid.{IsInside}
use Rattle.pybuf_desc.specs.Segments.{HasPlaces, range_at, joined_dims, outer_dims, bytes_of}
use Rattle.pybuf_desc.proofs.Products.{AreNonzero, AreNonzero-from_All, All-from_no_zero}
use Rattle.pybuf_desc.proofs.Tails.{tail_few}
use Rattle.pybuf_desc.proofs.SegmentFacts.{IsJoined, block_count, blocks_placed, blocks_inside, block_fits, ranges_are_blocks, range_bytes}
use Rattle.pybuf_desc.proofs.descriptor.BufferDescriptor.joined_segments.Goals as goal

pub overflow_sub-dims : goal.overflow_sub-dims
overflow_sub-dims c =
    let most = tail_few c.args.self.now.itemsize c.args.self.now.dims in
    let few = c.requires.few in
    let long : length c.dim_desc-dims.result.now ≡ length c.args.self.now.dims = ap (λ (ds : List (ℕ × ℤ × ℤ)). length ds) c.dim_desc-dims.ensures in
    omega (arith, most, few, long)

pub block_size-requires-clause-fits : goal.block_size-requires-clause-fits
block_size-requires-clause-fits c =
    let some : AreNonzero c.args.self.now.dims = subst AreNonzero c.dim_desc-dims.ensures (AreNonzero-from_All c.dim_desc-dims.result.now (All-from_no_zero c.dim_desc-dims.result.now (λ zero. true≢false (sym (c.if-has_zero.ensures.1 zero))))) in
    let r : IsJoined c.args.self.now c.args.start c.args.joined = record { placed = c.requires.placed; few = c.requires.few; some = some } in
    let block : c.split_at.result.1.now ≡ joined_dims c.args.joined c.args.self.now.dims = c.split_at.ensures.back ∙ ap (λ (ds : List (ℕ × ℤ × ℤ)). drop (length ds - c.args.joined) ds) c.dim_desc-dims.ensures in
    subst (λ (n : ℕ). n * product (shape_of c.split_at.result.1.now) < 2 ^ 63) (sym c.itemsize-size.ensures)
    (subst (λ (ds : List (ℕ × ℤ × ℤ)). c.args.self.now.itemsize * product (shape_of ds) < 2 ^ 63) (sym block) (block_fits c.args.self.now c.args.start c.args.joined r))

pub walk_blocks-requires-clause-placed : goal.walk_blocks-requires-clause-placed
walk_blocks-requires-clause-placed c =
    let some : AreNonzero c.args.self.now.dims = subst AreNonzero c.dim_desc-dims.ensures (AreNonzero-from_All c.dim_desc-dims.result.now (All-from_no_zero c.dim_desc-dims.result.now (λ zero. true≢false (sym (c.if-has_zero.ensures.1 zero))))) in
    let r : IsJoined c.args.self.now c.args.start c.args.joined = record { placed = c.requires.placed; few = c.requires.few; some = some } in
    let outer : c.split_at.result.0.now ≡ outer_dims c.args.joined c.args.self.now.dims = c.split_at.ensures.front ∙ ap (λ (ds : List (ℕ × ℤ × ℤ)). take (length ds - c.args.joined) ds) c.dim_desc-dims.ensures in
    subst (λ (ds : List (ℕ × ℤ × ℤ)). HasPlaces ds (pos c.args.start)) (sym outer) (blocks_placed c.args.self.now c.args.start c.args.joined r)

pub walk_blocks-requires-clause-inside : goal.walk_blocks-requires-clause-inside
walk_blocks-requires-clause-inside c =
    let some : AreNonzero c.args.self.now.dims = subst AreNonzero c.dim_desc-dims.ensures (AreNonzero-from_All c.dim_desc-dims.result.now (All-from_no_zero c.dim_desc-dims.result.now (λ zero. true≢false (sym (c.if-has_zero.ensures.1 zero))))) in
    let r : IsJoined c.args.self.now c.args.start c.args.joined = record { placed = c.requires.placed; few = c.requires.few; some = some } in
    let outer : c.split_at.result.0.now ≡ outer_dims c.args.joined c.args.self.now.dims = c.split_at.ensures.front ∙ ap (λ (ds : List (ℕ × ℤ × ℤ)). take (length ds - c.args.joined) ds) c.dim_desc-dims.ensures in
    let block : c.split_at.result.1.now ≡ joined_dims c.args.joined c.args.self.now.dims = c.split_at.ensures.back ∙ ap (λ (ds : List (ℕ × ℤ × ℤ)). drop (length ds - c.args.joined) ds) c.dim_desc-dims.ensures in
    let size : c.block_size.result ≡ c.args.self.now.itemsize * block_count c.args.self.now c.args.joined =
    c.block_size.ensures ∙ ap₂ (λ (n : ℕ) (ds : List (ℕ × ℤ × ℤ)). n * product (shape_of ds)) c.itemsize-size.ensures block in
    subst (λ (ds : List (ℕ × ℤ × ℤ)). AllByRecursion (IsInside c.block_size.result 9223372036854775807) (places ds (pos c.args.start))) (sym outer)
    (blocks_inside c.args.self.now c.args.start c.args.joined c.block_size.result r size)

pub returns-clause-ranges : goal.returns-clause-ranges
returns-clause-ranges c =
    let some : AreNonzero c.args.self.now.dims = subst AreNonzero c.dim_desc-dims.ensures (AreNonzero-from_All c.dim_desc-dims.result.now (All-from_no_zero c.dim_desc-dims.result.now (λ zero. true≢false (sym (c.if-has_zero.ensures.1 zero))))) in
    let r : IsJoined c.args.self.now c.args.start c.args.joined = record { placed = c.requires.placed; few = c.requires.few; some = some } in
    let outer : c.split_at.result.0.now ≡ outer_dims c.args.joined c.args.self.now.dims = c.split_at.ensures.front ∙ ap (λ (ds : List (ℕ × ℤ × ℤ)). take (length ds - c.args.joined) ds) c.dim_desc-dims.ensures in
    let block : c.split_at.result.1.now ≡ joined_dims c.args.joined c.args.self.now.dims = c.split_at.ensures.back ∙ ap (λ (ds : List (ℕ × ℤ × ℤ)). drop (length ds - c.args.joined) ds) c.dim_desc-dims.ensures in
    let size : c.block_size.result ≡ c.args.self.now.itemsize * block_count c.args.self.now c.args.joined =
    c.block_size.ensures ∙ ap₂ (λ (n : ℕ) (ds : List (ℕ × ℤ × ℤ)). n * product (shape_of ds)) c.itemsize-size.ensures block in
    c.walk_blocks.ensures ∙ ap (λ (ds : List (ℕ × ℤ × ℤ)). map (range_at c.block_size.result) (places ds (pos c.args.start))) outer
    ∙ ranges_are_blocks c.args.self.now c.args.start c.args.joined c.block_size.result r size

pub returns-clause-bytes : goal.returns-clause-bytes
returns-clause-bytes c = ap (λ (xs : List (Range ℕ)). flat_map bytes_of xs) (returns-clause-ranges c) ∙ range_bytes c.args.self.now c.args.start c.args.joined c.requires.placed c.requires.few
