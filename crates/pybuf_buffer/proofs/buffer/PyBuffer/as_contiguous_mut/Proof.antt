-- The function asks the buffer for its number, and the exporter, which it lends again for this, whether the
-- bytes may be written. Then it hands the exporter on to the call that lends, or it ends and the exporter is as
-- it was.
use Rattle.pybuf_buffer.proofs.Walking.{◌≡◌, ℕ, List, [], ◌∷◌, refl, sym, ap, ◌∙◌, subst, ◌<◌, ◌^◌, true, false, Bool, MutBor, length, Some, None, w64, lit<, full_share, proved, Some-of, none_of, T_true, T_false, Ura, SProp, ent, sep, id⊢, emp, Lft, Share, Memory, Routine, Fun, Logic, sem, by, RattleType, Bor, Clauses, ftrue, flft, fres, named, Val, vint, of_list, fact, fact_i, tables, ‵, raw, ◌⊛◌, some, later, at_ret, ◌$◌, ◌∵◌, !, qed, done, move, keep, drop, rewrite, use0, use1, use2, use3, split, join, fsplit, fsplit3, fjoin, pick, await, suffices, frame, live, agg, lft_new, lft_end, enter, lit, addr, stop, first, branches, skips, exec, returns, returns_within, no_more, and_then, alloc_all, pass_all, free_all, look_at, get, through, sets, lands_as, env, u8, usize, bool, yes, no, shows, lends_again, comes_back, LentAgain, uint_Makes, follows, MutRef, ShrRef, mut_vals, mut_Tells, shr_vals, shr_Tells, MutSlice, slice_val, plain, shr_ref_to, nothing, owned, peeks, facts, heard, only, calls_at, lasts, triple_of, framed, Stays, walk_of, says, stay_dropped, Goes-dropped, Goes-spent_ref, ends_at}
use denote.Follow.{follows_by}
use Rattle.std.specs.Borrow.{Array}
use Rattle.std.specs.contracts.option.Option as OP
use Rattle.pybuf_desc.specs.Items.{content_of_layout}
use Rattle.pybuf_state.specs.Live.{is_live, layout_of, is_writable_run}
use Rattle.pybuf_exporter.specs.Stored.{StoredExporter}
use Rattle.pybuf_exporter.specs.Lending.{run_written}
use Rattle.pybuf_buffer.specs.contracts.buffer.PyBuffer.{the_row as B}
use Rattle.pybuf_exporter.specs.contracts.exporter.ExporterState.{the_row as S}
use Rattle.pybuf_buffer.specs.contracts.buffer.PyBuffer.as_contiguous_mut as f
use Rattle.pybuf_buffer.proofs.buffer.PyBuffer.as_contiguous_mut.Statement.{statement}
use Rattle.pybuf_buffer.proofs.buffer.PyBuffer.as_contiguous_mut.Code as code
use Rattle.pybuf_buffer.specs.contracts.buffer.PyBuffer.number as number
use Rattle.pybuf_buffer.proofs.buffer.PyBuffer.number.Met.{met as numbered}
use Rattle.pybuf_buffer.specs.contracts.lending.has_writable_run as asks
use Rattle.pybuf_buffer.proofs.lending.has_writable_run.Met.{met as asked}
use Rattle.pybuf_buffer.specs.contracts.lending.writable_run as lends
use Rattle.pybuf_buffer.proofs.lending.writable_run.Met.{met as lent}

abbrev stayed : Stays f.ended.signature.params f.ended.kept
stayed = (stay_dropped _ yes, (stay_dropped _ no, tt))

-- How the function ends. It has the buffer b, whose lifetime is κ₀, and the exporter s, whose lifetime is κ.
module _ {M : Type 1} {𝓤 : Ura M} (𝓛 : Logic 𝓤) (at_mem : Memory → SProp 𝓤) (run : Routine → Fun 𝓤) (κ₀ κ : Lft) (q₀ q : Share) (b : Bor ℕ) (s : MutBor StoredExporter) where
  open 𝓛 use {A}

  abbrev c : Clauses 𝓤 f.ended
  c = f.clauses 𝓛 at_mem run

  abbrev y : (walk_of 𝓛 f.ended stayed c).Ghost
  y = (((κ₀, (κ, tt)), (q₀, (q, tt)), tt, (b, (s, tt)), (shr_vals b, (mut_vals s, tt))), tt)

  abbrev Post : Val → SProp 𝓤
  Post = (walk_of 𝓛 f.ended stayed c).post y

  abbrev Lent : RattleType
  Lent = MutSlice (named 1) κ u8

  -- it ends with the slice r
  exits : (r : MutBor (List ℕ)) → is_writable_run (layout_of s.now.exporter b.now) ≡ true → r.now ≡ content_of_layout s.now.exporter.bytes (layout_of s.now.exporter b.now)
      → ent 𝓤 (sep 𝓤 (sem 𝓛 (Lent.own_val r (slice_val r.ref_ptr (length r.now) ∷ []))) (sep 𝓤 (sem 𝓛 (follows S (Array u8 0) s.ghost_name r.ghost_name (run_written s.now b.now))) (sep 𝓤 (A.lft κ q) (A.lft κ₀ q₀))))
      (Post (live 1 (of_list (slice_val r.ref_ptr (length r.now) ∷ []))))
  unfolding follows_by
  exits r writable value =
      let v = slice_val r.ref_ptr (length r.now) in
      qed 𝓛 (‵ (Lent.own_val r (v ∷ [])) ∷ ‵ (follows S (Array u8 0) s.ghost_name r.ghost_name (run_written s.now b.now)) ∷ ‵ (flft κ q) ∷ ‵ (flft κ₀ q₀) ∷ []) ∵
      use1 𝓛 (‵ ((OP.the_row Lent).own_val (Some r) (live 1 (of_list (v ∷ [])) ∷ []))) (Some-of 𝓛 Lent r v) $
      suffices ! _ (ends_at 𝓛 f.ended stayed c y (live 1 (of_list (v ∷ []))) (Some r) (tt, (tt, tt)) (tt, (tt, tt))) $
      nothing ! $ nothing ! $ fjoin ! $ nothing ! $ fjoin ! $ join ! $ nothing ! $ move ! (3 ∷ 0 ∷ []) $ join ! $ move ! (3 ∷ 0 ∷ []) $ join ! $ join ! $
      frame ! $ says ! (writable, value) $ done !

  -- it ends with no slice, and the exporter is as it was
  leaves : is_writable_run (layout_of s.now.exporter b.now) ≡ false
      → ent 𝓤 (sep 𝓤 (sem 𝓛 ((MutRef (named 1) κ S).own_val s (mut_vals s))) (sep 𝓤 (A.lft κ q) (A.lft κ₀ q₀))) (Post (live 0 (of_list [])))
  unfolding follows_by
  leaves not_writable =
      qed 𝓛 (‵ ((MutRef (named 1) κ S).own_val s (mut_vals s)) ∷ ‵ (flft κ q) ∷ ‵ (flft κ₀ q₀) ∷ []) ∵
      fsplit3 ! $ move ! (1 ∷ []) $ use1 𝓛 (‵ (fres s.ghost_name (S.coded.code s.now))) (𝓛.names.obs-res s.ghost_name (S.coded.code s.now)) $ keep ! (0 ∷ 3 ∷ 4 ∷ []) $
      use0 𝓛 (‵ ((OP.the_row Lent).own_val None (live 0 (of_list []) ∷ []))) (none_of 𝓛 Lent) $
      suffices ! _ (ends_at 𝓛 f.ended stayed c y (live 0 (of_list [])) None (tt, (tt, tt)) (tt, (tt, tt))) $
      nothing ! $ nothing ! $ fjoin ! $ nothing ! $ fjoin ! $ join ! $ nothing ! $ move ! (3 ∷ 0 ∷ []) $ join ! $ move ! (3 ∷ 0 ∷ []) $ join ! $ join ! $
      frame ! $ says ! not_writable $ done !

pub as_contiguous_mut_spec : {M : Type 1} → statement M
as_contiguous_mut_spec 𝓤 𝓛 𝓜 𝓡 wired =
    let c = f.clauses 𝓛 𝓜.mem 𝓡.returns in let W = walk_of 𝓛 f.ended stayed c in let 𝓣 = tables 𝓤 𝓛.H 𝓜 𝓡 𝓡.env in
    let fm = framed 𝓤 𝓛.H 𝓜 𝓣 in
    proved 𝓛 f.ended stayed c 𝓜 𝓡 (Goes-dropped 𝓛 2 (shr_ref_to (0 ∷ []) tt (plain (λ _. B))) yes (λ κs x w. refl), (Goes-spent_ref 𝓛 2 (1 ∷ []) tt (plain (λ _. S)), tt))
    f.Key.name code.function (code.unfolded 𝓤 𝓛.H 𝓜 𝓡 wired)
    (λ κs. (shr_vals, (mut_vals, tt))) (λ κs. (shr_Tells (named 0) κs.0 B, (mut_Tells (named 1) κs.1.0 S, tt))) (λ κs qs bounds a _ are.
    let κ = κs.1.0 in let q = qs.1.0 in let b = a.0 in let s = a.1.0 in let k = b.now in
    let Shared = ShrRef (named 0) κs.0 B in let Ref = MutRef (named 1) κ S in let Lent = MutSlice (named 1) κ u8 in
    let y : W.Ghost = ((κs, qs, bounds, a, (shr_vals b, (mut_vals s, tt))), tt) in
    qed 𝓛 (((‵ (flft κs.0 qs.0) ⊛ ‵ (flft κ q) ⊛ ‵ ftrue) ⊛ ‵ (Shared.own_val b (shr_vals b)) ⊛ ‵ (Ref.own_val s (mut_vals s)) ⊛ ‵ ftrue)
    ∷ raw (fact 𝓤 (is_live s.now.exporter k ≡ true)) ∷ []) ∵
    split ! $ split ! $ move ! (1 ∷ []) $ split ! $ move ! (3 ∷ []) $ split ! $ move ! (1 ∷ []) $ split ! $
    move ! (6 ∷ []) $ heard ! _ (λ living. keep ! (2 ∷ 5 ∷ 0 ∷ 3 ∷ []) $
    -- [the buffer; its token; the exporter; its token]
    enter ! _ _ _ _ _ $ alloc_all ! (λ l. pass_all ! refl ((tt, tt), ((tt, tt), tt)) $
    let N = triple_of 𝓛 number.signature (number.spec 𝓛 𝓜.mem 𝓡.returns) in
    let zn : N.Ghost = (((κs.0, tt), (qs.0, tt), tt, (b, tt), (shr_vals b, tt)), tt) in
    nothing ! $ move ! (1 ∷ 0 ∷ []) $ join ! $ nothing ! $ move ! (2 ∷ 0 ∷ []) $ join ! $ join ! $
    nothing ! $ move ! (1 ∷ 0 ∷ []) $ use2 𝓛 (raw (N.pre zn)) (id⊢ 𝓤 _) $
    calls_at ! fm N (numbered 𝓤 𝓛 𝓜 𝓡 (code.calls-pybuf_buffer::buffer::PyBuffer::number 𝓡.env wired)) zn (and_then ! (get ! refl) (no_more !)) (λ v.
    use1 𝓛 (later (some (λ (n : ℕ). ((‵ (flft κs.0 qs.0) ⊛ ‵ ftrue) ⊛ ‵ (usize.own_val n (v ∷ []))) ⊛
    some (λ (ws : Unit {0} × Unit {0}). ‵ (lasts number.ended zn.0.0 zn.0.3 ws) ⊛ raw (fact 𝓤 (n ≡ k)))))) (id⊢ 𝓤 _) $
    await ! tt $ pick ! (λ n. split ! $ split ! $ split ! $ move ! (3 ∷ []) $ pick ! (λ ws. split ! $ drop ! $ heard ! _ (λ is_number.
    move ! (2 ∷ []) $ facts ! usize _ (shows 𝓛 usize) n (v ∷ []) (λ is.
    let low : k < 2 ^ 64 = subst (λ (m : ℕ). m < 2 ^ 64) is_number is.1 in
    lands_as ! (ap only is.0 ∙ ap (λ (m : ℕ). vint w64 m) is_number) refl (tt, record { fits = low }) $
    -- [the buffer's token; nothing; the exporter; its token]
    sets ! (addr ! (through ! refl (stop !))) refl (tt, tt) $
    lft_new ! tt (λ α. move ! (3 ∷ 4 ∷ []) $
    let rb = s.ref_ptr.0 in let ro = s.ref_ptr.1 in
    use2 𝓛 (later (some (λ (δ : ℕ). ‵ ((MutRef (named 0) (α ∷ []) S).own_val (record s { ghost_name = δ }) (mut_vals s)) ⊛ ‵ (LentAgain S κ (α ∷ []) q s.ghost_name rb ro δ s.now))))
    (lends_again 𝓛 S (named 1) κ (α ∷ []) q s.ghost_name rb ro (named 0) s.now) $ await ! tt $ pick ! (λ δ. split ! $
    -- [the loan; what the lender keeps; the loan's token; the buffer's token; nothing]
    let A = triple_of 𝓛 asks.signature (asks.spec 𝓛 𝓜.mem 𝓡.returns) in
    let za : A.Ghost = (((α ∷ [], tt), (full_share, tt), tt, (record s { ghost_name = δ }, (k, tt)), (mut_vals s, (vint w64 k ∷ [], tt))), tt) in
    nothing ! $ owned ! usize _ (uint_Makes 𝓛 w64) k _ (refl, low) $ join ! $ move ! (1 ∷ 0 ∷ []) $ join ! $
    nothing ! $ move ! (3 ∷ 0 ∷ []) $ join ! $ join ! $
    use0 𝓛 (raw (fact 𝓤 (is_live s.now.exporter k ≡ true))) (fact_i 𝓤 _ (emp 𝓤) living) $ move ! (1 ∷ 0 ∷ []) $ use2 𝓛 (raw (A.pre za)) (id⊢ 𝓤 _) $
    calls_at ! fm A (asked 𝓤 𝓛 𝓜 𝓡 (code.calls-pybuf_buffer::lending::has_writable_run 𝓡.env wired)) za (and_then ! (get ! refl) (and_then ! (get ! refl) (no_more !))) (λ t.
    use1 𝓛 (later (some (λ (answer : Bool). ((‵ (flft (α ∷ []) full_share) ⊛ ‵ ftrue) ⊛ ‵ (bool.own_val answer (t ∷ []))) ⊛
    some (λ (ws : StoredExporter × (Unit {0} × Unit {0})). ‵ (lasts asks.ended za.0.0 za.0.3 ws) ⊛ (raw (fact 𝓤 (answer ≡ is_writable_run (layout_of s.now.exporter k))) ⊛ raw (fact 𝓤 (ws.0 ≡ s.now))))))) (id⊢ 𝓤 _) $
    await ! tt $ pick ! (λ answer. split ! $ split ! $ split ! $ lft_end ! tt $ move ! (2 ∷ []) $ facts ! bool _ (shows 𝓛 bool) answer (t ∷ []) (λ is_answer.
    lands_as ! (ap only is_answer) refl (tt, tt) $
    move ! (2 ∷ []) $ pick ! (λ ws. split ! $ move ! (1 ∷ []) $ split ! $ heard ! _ (λ right. heard ! _ (λ same. fsplit ! $ fsplit ! $
    rewrite ! 0 (λ (m : StoredExporter). ‵ (fres δ (S.coded.code m))) same refl $
    -- [the loan's last value; its borrow; nothing; it is over; nothing; what the lender keeps; the buffer's token; nothing]
    move ! (3 ∷ 5 ∷ 0 ∷ []) $ use3 𝓛 (later (‵ (Ref.own_val s (mut_vals s)) ⊛ ‵ (flft κ q))) (comes_back 𝓛 S (named 1) κ (α ∷ []) q s.ghost_name rb ro δ s.now s.now) $ await ! tt $ split ! $
    -- [the exporter; its token; three that are done with; the buffer's token; nothing]
    first ! $ branches ! (get ! refl)
    (λ lies.
    let writable = sym right ∙ T_true answer lies in
    sets ! (addr ! (through ! refl (stop !))) refl (tt, tt) $
    let G = triple_of 𝓛 lends.signature (lends.spec 𝓛 𝓜.mem 𝓡.returns) in
    let z : G.Ghost = (((κ, tt), (q, tt), tt, (s, (k, tt)), (mut_vals s, (vint w64 k ∷ [], tt))), tt) in
    nothing ! $ owned ! usize _ (uint_Makes 𝓛 w64) k _ (refl, low) $ join ! $ move ! (1 ∷ 0 ∷ []) $ join ! $
    nothing ! $ move ! (2 ∷ 0 ∷ []) $ join ! $ join ! $
    use0 𝓛 (raw (fact 𝓤 (is_writable_run (layout_of s.now.exporter k) ≡ true))) (fact_i 𝓤 _ (emp 𝓤) writable) $ use0 𝓛 (raw (fact 𝓤 (is_live s.now.exporter k ≡ true))) (fact_i 𝓤 _ (emp 𝓤) living) $ join ! $
    move ! (1 ∷ 0 ∷ []) $ use2 𝓛 (raw (G.pre z)) (id⊢ 𝓤 _) $
    calls_at ! fm G (lent 𝓤 𝓛 𝓜 𝓡 (code.calls-pybuf_buffer::lending::writable_run 𝓡.env wired)) z (and_then ! (get ! refl) (and_then ! (get ! refl) (no_more !))) (λ w.
    use1 𝓛 (later (some (λ (r : MutBor (List ℕ)). ((‵ (flft κ q) ⊛ ‵ ftrue) ⊛ ‵ (Lent.own_val r (w ∷ []))) ⊛
    some (λ (us : Unit {0} × (Unit {0} × Unit {0})). ‵ (lasts lends.ended z.0.0 z.0.3 us) ⊛ (‵ (follows S (Array u8 0) s.ghost_name r.ghost_name (run_written s.now k)) ⊛ raw (fact 𝓤 (r.now ≡ content_of_layout s.now.exporter.bytes (layout_of s.now.exporter k)))))))) (id⊢ 𝓤 _) $
    await ! tt $ pick ! (λ r. split ! $ split ! $ split ! $ move ! (3 ∷ []) $ pick ! (λ us. split ! $ drop ! $ split ! $ move ! (1 ∷ []) $ heard ! _ (λ value.
    move ! (3 ∷ []) $ peeks ! Lent _ (shows 𝓛 Lent) r (w ∷ []) (λ laid.
    let v' = slice_val r.ref_ptr (length r.now) in
    rewrite ! 0 (λ (u : Val). ‵ (Lent.own_val r (u ∷ []))) (ap only laid.0.0) refl $
    lands_as ! (ap only laid.0.0) refl (tt, (tt, (record { fits = laid.0.1.0 }, tt))) $
    sets ! (agg ! (and_then ! (lit ! tt) (and_then ! (get ! refl) (no_more !)))) refl (tt, (record { fits = lit< tt }, ((tt, (record { fits = laid.0.1.0 }, tt)), tt))) $
    returns_within ! (W.post y) refl (look_at ! 0 refl) $ free_all ! refl $ keep ! (0 ∷ 1 ∷ 2 ∷ 7 ∷ []) $
    -- [the slice; the clause; the exporter's token; the buffer's token]
    by ! (exits 𝓛 𝓜.mem 𝓡.returns κs.0 κ qs.0 q b s r writable value)))))))
    (λ lies_not. skips ! $ exec ! 𝓣.C 𝓣.Λ (env code.Mir.locals l) code.Mir.t-5 (at_ret _ (W.post y)) $
    sets ! (agg ! (and_then ! (lit ! tt) (no_more !))) refl (tt, (record { fits = lit< tt }, tt)) $
    returns ! (look_at ! 0 refl) $ free_all ! refl $ keep ! (0 ∷ 1 ∷ 5 ∷ []) $
    -- [the exporter; its token; the buffer's token]
    by ! (leaves 𝓛 𝓜.mem 𝓡.returns κs.0 κ qs.0 q b s (sym right ∙ T_false answer lies_not)))))))))))))))))))
