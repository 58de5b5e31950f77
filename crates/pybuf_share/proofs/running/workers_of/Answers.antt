use Rattle.std.proofs.Common.{rules, ◌≡◌, ◌++◌, ◌∷◌, [], ◌+◌, length, take, drop, ap, sym, arith, ◌∙◌, subst, length-append}
use Rattle.std.proofs.lemmas.List.{take_all}
use Rattle.pybuf_share.specs.Sessions.{Asker, new_session}
use Rattle.pybuf_share.specs.Working.{ScriptFits, works_from}
use Rattle.pybuf_share.proofs.Works.{here, no_more, session_here, works_next, many_sessions}
use Rattle.pybuf_share.proofs.running.workers_of.Goals as goal

pub new-requires-clause-new : goal.new-requires-clause-new
new-requires-clause-new g c =
    let i = length c.loop-session.yielded in
    let s = c.in-Some.session in
    let inv = c.loop-session.invariant in
    let at = here c.args.sessions.items _ i s _ inv.2 c.in-Some.ensures.steps.0 in
    let is = session_here c.args.sessions.items (length c.args.scripts) i s c.requires.sessions at.within at.read in
    is ∙ ap new_session (sym (ap (λ (x : Asker). x.number) is))

pub new-requires-clause-fit : goal.new-requires-clause-fit
new-requires-clause-fit g c =
    let i = length c.loop-session.yielded in
    let inv = c.loop-session.invariant in
    let at = here c.args.scripts _ i c.in-Some-next.script _ inv.1 c.in-Some-next.ensures.items in
    subst (λ x. ScriptFits x) (sym at.read) (c.requires.fit i c.in-Some-next.script at.within)

pub loop-session-preserved-in-Continue-1 : goal.loop-session-preserved-in-Continue-1
loop-session-preserved-in-Continue-1 g c =
    let i = length c.loop-session.yielded in
    let inv = c.loop-session.invariant in
    let s = c.in-Some.session in
    let script = c.in-Some-next.script in
    let at = here c.args.sessions.items _ i s _ inv.2 c.in-Some.ensures.steps.0 in
    let of = here c.args.scripts _ i script _ inv.1 c.in-Some-next.ensures.items in
    let is = session_here c.args.sessions.items (length c.args.scripts) i s c.requires.sessions at.within at.read in
    let next : i + 1 ≡ length (c.loop-session.yielded ++ s ∷ []) = sym (length-append c.loop-session.yielded (s ∷ [])) in
    let made = works_next c.args.scripts i script s c.loop-session.workers.items c.push.new.self.items of.within of.read is inv.0 (search rules) in (
      made ∙ ap (λ n. works_from 0 (take n c.args.scripts)) next,
      of.rest_is ∙ ap (λ n. drop n c.args.scripts) next,
      at.rest_is ∙ ap (λ n. drop n c.args.sessions.items) next,
    )

pub returns : goal.returns
returns g c =
    let i = length c.loop-session.yielded in
    let inv = c.loop-session.invariant in
    let past = no_more c.args.sessions.items _ i inv.2 (search rules) in
    let many = ap length c.requires.sessions ∙ many_sessions 0 (length c.args.scripts) in
    inv.0 ∙ ap (λ l. works_from 0 l) (take_all i c.args.scripts (omega (arith, past, many)))
