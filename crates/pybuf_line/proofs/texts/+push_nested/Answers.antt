use Rattle.std.proofs.Common.{◌∙◌, ap, sym, ◌++◌, ◌≤◌, ◌<◌, ◌-◌, ◌/◌, length, codes, slice_index_or, arith}
use Rattle.pybuf_line.proofs.Nested.{block_text, left_text, inner_of, first_text, fits_then, block_more, in_one_list, in_blocks, all_blocks}
use Rattle.pybuf_line.proofs.texts.+push_nested.Goals as goal

pub loop-preserved : goal.loop-preserved
loop-preserved t c =
    let shape = c.args.shape.now in
    let entries = slice_index_or shape 0 0 in
    let size = length c.args.items.now / entries in
    record {
      text =
          block_more (inner_of shape) c.loop.counter entries size c.loop.rest.now c.split_at-in-loop.result.0.now c.split_at-in-loop.result.1.now
          _ _ _ _ c.loop-test.true c.loop.invariant.text c.split_at-in-loop.ensures.front c.split_at-in-loop.ensures.back
          c.in_ok-extend_from_slice-in-len1-up.ensures.items c.in_ok-push_nested-in-len1-up-2.ensures;
      room = fits_then c.loop.counter entries size (length c.loop.rest.now) (length c.split_at-in-loop.result.1.now) c.loop-test.true c.loop.invariant.room c.split_at-in-loop.ensures.back_len;
    }

pub returns-in_ok-push_list-in-empty : goal.returns-in_ok-push_list-in-empty
returns-in_ok-push_list-in-empty t c =
    c.in_ok-push_list-in-empty.ensures ∙ ap (λ text. c.args.out.now.items ++ text) (sym (in_one_list c.args.shape.now c.args.items.now c.in-empty.len_below))

pub returns-in_ok-push-in-len1-up-2 : goal.returns-in_ok-push-in-len1-up-2
returns-in_ok-push-in-len1-up-2 t c =
    let shape = c.args.shape.now in
    let entries = slice_index_or shape 0 0 in
    let size = length c.args.items.now / entries in
    let several : 2 ≤ length shape = omega arith in
    let some : 0 < entries = omega arith in
    let first = c.split_at.result.0.now in
    let others = c.split_at.result.1.now in
    let text =
    all_blocks c.args.out.now.items _ _ _ _ (block_text (inner_of shape) first) (left_text (inner_of shape) (entries - 1) size others) (inner_of shape) entries
    c.loop.counter size c.loop.rest.now c.in_ok-push-in-len1-up.ensures.items c.in_ok-push_nested-in-len1-up.ensures c.loop.invariant.text (omega arith)
    c.in_ok-push-in-len1-up-2.ensures.items in
    text
    ∙ (ap (λ b. c.args.out.now.items ++ (codes "[" ++ block_text (inner_of shape) b ++ left_text (inner_of shape) (entries - 1) size others ++ codes "]")) c.split_at.ensures.front
    ∙ (ap (λ r. c.args.out.now.items ++ (codes "[" ++ first_text shape size c.args.items.now ++ left_text (inner_of shape) (entries - 1) size r ++ codes "]")) c.split_at.ensures.back
    ∙ ap (λ t. c.args.out.now.items ++ t) (sym (in_blocks shape c.args.items.now several some))))
