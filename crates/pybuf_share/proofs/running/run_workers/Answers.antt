use Rattle.std.proofs.Common.{rules, ◌≡◌, ◌<◌, ◌++◌, ℕ, List, length, map, take, drop, get_or, ap, ◌∙◌}
use Rattle.pybuf_share.specs.Working.{Work, post_of}
use Rattle.pybuf_share.proofs.Works.{calls_keep_posts, all_taken}
use Rattle.pybuf_share.proofs.running.run_workers.Goals as goal

pub returns : goal.returns
returns g c =
    let xs : List Work = c.args.workers.items in
    let ys : List Work = c.for_each_mut.new.s in
    let len : length ys ≡ length c.as_mut_slice.result.now = search rules in
    let many : c.args.workers.len ≡ length ys = search rules in
    ap (map post_of) (all_taken ys (drop (length ys) xs) c.args.workers.len many)
    ∙ calls_keep_posts _ _ c.as_mut_slice.result.now ys len (λ i before after post. search rules) c.for_each_mut.ensures
    ∙ ap (map post_of) c.as_mut_slice.ensures.value
