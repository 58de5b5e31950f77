use Rattle.std.proofs.Common.{rules, ◌≡◌, ◌<◌, ℕ, List, length, drop, get_or, sym, subst}
use Rattle.pybuf_share.specs.Sessions.{Asker}
use Rattle.pybuf_share.specs.Finishing.{AreAll}
use Rattle.test_objects.proofs.Kept.{all_kept, all_taken}
use Rattle.test_objects.proofs.appending.append_each.Goals as goal

pub returns : goal.returns
returns g c =
    let xs : List Asker = c.args.sessions.items in
    let ys : List Asker = c.for_each_mut.new.s in
    let len : length ys ≡ length xs = search rules in
    let many : c.args.sessions.len ≡ length ys = search rules in
    let numbers : (i : ℕ) (d : Asker) → i < length xs → (get_or ys i d).number ≡ (get_or xs i d).number = λ i d within. (let at = (c.for_each_mut.ensures i d (search rules)).1 in search rules) in
    let shares : (i : ℕ) (d : Asker) → i < length xs → (get_or ys i d).parts ≡ (get_or xs i d).parts = λ i d within. (let at = (c.for_each_mut.ensures i d (search rules)).1 in search rules) in
    subst (λ l. AreAll g.L.Ledger.parts l) (sym (all_taken ys (drop (length ys) xs) c.args.sessions.len many)) (all_kept g.L.Ledger.parts xs ys len numbers shares c.requires)
