-- `as_mut` lends the console at the address, and the address follows it. The proof assumes `Logic`.
use Rattle.std.proofs.Common.{◌≡◌, ℕ, List, [], ◌∷◌, refl, sym}
use seplogic.Ra.Ura.{Ura}
use base.Fraction.{full_share}
use base.Fml.{Fml, GName, ftrue, flft, fsep}
use base.Logic.{ent, sep, id⊢}
use contract.Monad.{fact}
use contract.Running.{tables}
use mir.Syntax.{named}
use mir.Raw.{raw as bare}
use mir.Val.{Val, vptr}
use types.Logic.{Logic, sem}
use types.Kit.{‵, raw, ◌⊛◌, some, later, at_ret, ◌$◌, ◌∵◌, !, qed, done, move, keep, use1, split, split3, join, fsplit, fsplit3, fjoin, fpack, pick, await, rewrite, suffices, frame, group}
use types.Part.{whole, sub, look_in}
use types.Run.{enter, of_opd, addr, load, stop, fld, first, blocks, exec, returns}
use types.ByLocal.{alloc_all, pass_all, free_all, look_at, get, through, sets, sets_last, env}
use denote.Exit.{no}
use denote.Follow.{follows, Part, lends_Part}
use denote.Memory.{mem, part_at, part_of, cell_at}
use denote.RawPtr.{block_ptr}
use denote.Ref.{MutBor, MutRef, mut_vals, mut_Tells}
use denote.Signature.{mut_ref_to, plain}
use denote.Steps.{nothing, opens, heard}
use denote.Triple.Walked.{says, Stays, stay_dropped, Goes-spent_ref, walk_of, ends_at}
use Rattle.core.proofs.alloc.Calls.{token}
use Rattle.std.specs.Prelude.{Bool, true}
use Rattle.std.proofs.raw_atomic.Walks.{proved}
use Rattle.std_alloc.proofs.BoxSteps.Form.{D, R, B, τ, word, handle}
use Rattle.std_alloc.proofs.BoxSteps.Steps.{box_out, box_in}
use Rattle.std_alloc.proofs.VecSteps.Shapes.{after}
use Rattle.pybuf_console.specs.Console.{Console}
use Rattle.pybuf_console.specs.Reached.{with_console}
use Rattle.pybuf_console.specs.declared.address.ConsoleAddress.{ConsoleAddress}
use Rattle.pybuf_console.specs.contracts.address.ConsoleAddress.{the_row as From}
use Rattle.pybuf_console.specs.contracts.console.Console.{the_row as To}
use Rattle.pybuf_console.specs.contracts.address.ConsoleAddress.as_mut as F
use Rattle.pybuf_console.proofs.Rows.{E}
use Rattle.pybuf_console.proofs.address.ConsoleAddress.as_mut.Statement.{statement}
use Rattle.pybuf_console.proofs.address.ConsoleAddress.as_mut.Code as code

abbrev stayed : Stays (F.ended).signature.params (F.ended).kept
stayed = (stay_dropped (mut_ref_to (0 ∷ []) tt (plain (λ _. From))) no, tt)

abbrev filled : ConsoleAddress → Bool → Console → ConsoleAddress
filled h full console = record { at = h.at; alloc = h.alloc; full = full; console = console }

-- the box of which a full address is the place
abbrev boxed : ConsoleAddress → Console → D E
boxed h console = record { ptr = h.at; alloc = h.alloc; value = console }

module _ (h : ConsoleAddress) (b o : ℕ) (hv : Val) (rb ro : ℕ) where
  -- what the address has beside its console
  abbrev Rest : Fml
  Rest = fsep (fsep (token E.al h.alloc (bare (τ E)) (block_ptr b o)) (handle E h.alloc hv)) (cell_at full_share From.mir (word E hv b o ∷ []) rb ro)

  back : {M : Type 1} {𝓤 : Ura M} (𝓛 : Logic 𝓤) → h.full ≡ true → h.at ≡ block_ptr b o → (w : Console) → ent 𝓤 (sep 𝓤 (sem 𝓛 ((mem To).own_at w b o)) (sem 𝓛 Rest)) (sem 𝓛 ((mem From).own_at (with_console h w) rb ro))
  unfolding part_of
  back {𝓤 = 𝓤} 𝓛 is_full at_b w =
      qed 𝓛 (‵ (part_at (R E) full_share w b o) ∷ ‵ Rest ∷ []) ∵ move ! (1 ∷ []) $ fsplit ! $ fsplit ! $ move ! (3 ∷ []) $
      box_in E ! (boxed h w) b o w at_b refl $ use1 𝓛 (‵ (From.own_val (filled h true w) (word E hv b o ∷ []))) (id⊢ 𝓤 _) $
      rewrite ! 0 (λ (f : Bool). ‵ (From.own_val (filled h f w) (word E hv b o ∷ []))) (sym is_full) refl $ move ! (1 ∷ 0 ∷ []) $ fjoin ! $
      fpack ! (List Val) (λ us. fsep (cell_at full_share From.mir us rb ro) (From.own_val (with_console h w) us)) (word E hv b o ∷ []) $ done !

pub as_mut_spec : {M : Type 1} → statement M
as_mut_spec 𝓤 𝓛 𝓜 𝓡 wired =
    let 𝓣 = tables 𝓤 𝓛.H 𝓜 𝓡 𝓡.env in
    let c = F.clauses 𝓛 𝓜.mem 𝓡.returns in let W = walk_of 𝓛 F.ended stayed c in
    proved 𝓛 F.ended stayed c 𝓜 𝓡 (Goes-spent_ref 𝓛 1 (0 ∷ []) tt (plain (λ _. From)), tt)
    F.Key.name code.function (code.unfolded 𝓤 𝓛.H 𝓜 𝓡 wired)
    (λ κs. (mut_vals, tt)) (λ κs. (mut_Tells (named 0) κs.0 From, tt)) (λ κs qs bounds a _ are.
    let κ = κs.0 in let q = qs.0 in let r = a.0 in let rb = r.ref_ptr.0 in let ro = r.ref_ptr.1 in let γ = r.ghost_name in let h = r.now in let vs = mut_vals r in
    let y : W.Ghost = ((κs, qs, bounds, a, (vs, tt)), tt) in
    qed 𝓛 (((‵ (flft κ q) ⊛ ‵ ftrue) ⊛ ‵ ((MutRef (named 0) κ From).own_val r vs) ⊛ ‵ ftrue) ∷ raw (fact 𝓤 (h.full ≡ true)) ∷ []) ∵
    move ! (1 ∷ []) $ heard ! (h.full ≡ true) (λ is_full. split ! $ split ! $ move ! (2 ∷ []) $ split ! $ keep ! (0 ∷ 2 ∷ []) $
    enter ! _ _ _ _ _ $ alloc_all ! (λ l. pass_all ! refl ((tt, tt), tt) $
    fsplit3 ! $ move ! (1 ∷ 2 ∷ 3 ∷ []) $ opens ! tt From {h = h} rb ro (λ us. move ! (1 ∷ []) $
    rewrite ! 0 (λ (f : Bool). ‵ (From.own_val (filled h f h.console) us)) is_full refl $ use1 𝓛 (‵ ((B E).own_val (boxed h h.console) us)) (id⊢ 𝓤 _) $
    box_out E ! (boxed h h.console) us (λ b o hv at_b ws fits. use1 𝓛 (‵ (part_at To full_share h.console b o)) (id⊢ 𝓤 _) $
    move ! (1 ∷ 2 ∷ []) $ fjoin ! $ move ! (1 ∷ []) $ rewrite ! 2 (λ (ws : List Val). ‵ (cell_at full_share From.mir ws rb ro)) ws refl $
    -- [the console; the right to free it, with the allocator; the address's cell; the open borrow, in three entries]
    first ! $ blocks ! $
    sets ! (of_opd ! (load ! (through ! refl (fld ! refl (stop !))) (look_in ! 2 (sub ! 0 refl (whole !))))) refl (tt, tt) $
    sets ! (of_opd ! (get ! refl)) refl (tt, tt) $
    sets_last ! (addr ! (through ! refl (stop !))) refl (tt, tt) $
    exec ! 𝓣.C 𝓣.Λ (env code.Mir.locals l) (after 1 (code.function).body) (at_ret _ (W.post y)) $
    sets ! (of_opd ! (get ! refl)) refl (tt, tt) $
    move ! (1 ∷ 2 ∷ []) $ fjoin ! $ move ! (2 ∷ 3 ∷ 4 ∷ 1 ∷ 0 ∷ []) $ group ! 5 $
    let rest = sem 𝓛 (Rest h b o hv rb ro) in let to = back h b o hv rb ro 𝓛 is_full at_b in
    use1 𝓛 (later (some (λ (γ' : GName). raw (Part 𝓛 From To (with_console h) (named 0) κ q rb ro b o γ rest to h.console γ'))))
    (lends_Part 𝓛 From To (with_console h) (named 0) κ q rb ro b o γ rest to ((From.coded).code h) ((From.coded).code h) h.console) $ await ! tt $ pick ! (λ γ'.
    returns ! (look_at ! 0 refl) $ free_all ! refl $ keep ! (0 ∷ []) $
    let lent : MutBor Console = record { ref_ptr = (b, o); ghost_name = γ'; now = h.console } in
    use1 𝓛 (‵ ((MutRef (named 0) κ To).own_val lent (vptr b o ∷ [])) ⊛ ‵ (flft κ q) ⊛ ‵ (follows From To γ γ' (with_console h))) (id⊢ 𝓤 _) $ split3 ! $
    suffices ! _ (ends_at 𝓛 F.ended stayed c y (vptr b o) lent (tt, tt) (tt, tt)) $
    nothing ! $ nothing ! $ fjoin ! $ join ! $ nothing ! $ move ! (2 ∷ 0 ∷ []) $ join ! $ join ! $ frame ! $ says ! refl $ done !))))))
