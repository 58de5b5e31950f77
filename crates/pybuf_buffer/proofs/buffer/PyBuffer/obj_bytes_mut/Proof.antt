-- The function asks the buffer for its number, and hands the exporter on to the call that lends.
use Rattle.pybuf_buffer.proofs.Walking.{◌≡◌, ℕ, List, [], ◌∷◌, refl, ap, ◌∙◌, subst, ◌<◌, ◌^◌, true, false, MutBor, length, w64, proved, id⊢, emp, ftrue, flft, named, Val, vint, fact, fact_i, tables, ‵, raw, ◌⊛◌, some, later, ◌$◌, ◌∵◌, !, qed, done, move, keep, drop, rewrite, use0, use1, use2, split, join, fjoin, pick, await, suffices, frame, enter, addr, stop, returns, no_more, and_then, alloc_all, pass_all, free_all, look_at, get, through, sets, lands_as, u8, usize, yes, no, shows, uint_Makes, follows, MutRef, ShrRef, mut_vals, mut_Tells, shr_vals, shr_Tells, MutSlice, slice_val, plain, shr_ref_to, nothing, owned, peeks, facts, heard, only, calls_at, lasts, triple_of, framed, Stays, walk_of, says, stay_dropped, Goes-dropped, Goes-spent_ref, ends_at}
use Rattle.std.specs.Borrow.{Array}
use Rattle.pybuf_state.specs.Live.{is_live, layout_of}
use Rattle.pybuf_exporter.specs.Lending.{overwritten}
use Rattle.pybuf_buffer.specs.contracts.buffer.PyBuffer.{the_row as B}
use Rattle.pybuf_exporter.specs.contracts.exporter.ExporterState.{the_row as S}
use Rattle.pybuf_buffer.specs.contracts.buffer.PyBuffer.obj_bytes_mut as f
use Rattle.pybuf_buffer.proofs.buffer.PyBuffer.obj_bytes_mut.Statement.{statement}
use Rattle.pybuf_buffer.proofs.buffer.PyBuffer.obj_bytes_mut.Code as code
use Rattle.pybuf_buffer.specs.contracts.buffer.PyBuffer.number as number
use Rattle.pybuf_buffer.proofs.buffer.PyBuffer.number.Met.{met as numbered}
use Rattle.pybuf_buffer.specs.contracts.lending.all_bytes as lends
use Rattle.pybuf_buffer.proofs.lending.all_bytes.Met.{met as lent}

abbrev stayed : Stays f.ended.signature.params f.ended.kept
stayed = (stay_dropped _ yes, (stay_dropped _ no, tt))

pub obj_bytes_mut_spec : {M : Type 1} → statement M
obj_bytes_mut_spec 𝓤 𝓛 𝓜 𝓡 wired =
    let c = f.clauses 𝓛 𝓜.mem 𝓡.returns in let W = walk_of 𝓛 f.ended stayed c in
    let fm = framed 𝓤 𝓛.H 𝓜 (tables 𝓤 𝓛.H 𝓜 𝓡 𝓡.env) in
    proved 𝓛 f.ended stayed c 𝓜 𝓡 (Goes-dropped 𝓛 2 (shr_ref_to (0 ∷ []) tt (plain (λ _. B))) yes (λ κs x w. refl), (Goes-spent_ref 𝓛 2 (1 ∷ []) tt (plain (λ _. S)), tt))
    f.Key.name code.function (code.unfolded 𝓤 𝓛.H 𝓜 𝓡 wired)
    (λ κs. (shr_vals, (mut_vals, tt))) (λ κs. (shr_Tells (named 0) κs.0 B, (mut_Tells (named 1) κs.1.0 S, tt))) (λ κs qs bounds a _ are.
    let κ = κs.1.0 in let q = qs.1.0 in let b = a.0 in let s = a.1.0 in let k = b.now in
    let Shared = ShrRef (named 0) κs.0 B in let Ref = MutRef (named 1) κ S in let Lent = MutSlice (named 1) κ u8 in
    let y : W.Ghost = ((κs, qs, bounds, a, (shr_vals b, (mut_vals s, tt))), tt) in
    qed 𝓛 (((‵ (flft κs.0 qs.0) ⊛ ‵ (flft κ q) ⊛ ‵ ftrue) ⊛ ‵ (Shared.own_val b (shr_vals b)) ⊛ ‵ (Ref.own_val s (mut_vals s)) ⊛ ‵ ftrue)
    ∷ (raw (fact 𝓤 (is_live s.now.exporter k ≡ true)) ⊛ raw (fact 𝓤 ((layout_of s.now.exporter k).readonly ≡ false))) ∷ []) ∵
    split ! $ split ! $ move ! (1 ∷ []) $ split ! $ move ! (3 ∷ []) $ split ! $ move ! (1 ∷ []) $ split ! $
    move ! (6 ∷ []) $ split ! $ heard ! _ (λ living. heard ! _ (λ writable. keep ! (2 ∷ 5 ∷ 0 ∷ 3 ∷ []) $
    -- [the buffer; its token; the exporter; its token]
    enter ! _ _ _ _ _ $ alloc_all ! (λ l. pass_all ! refl ((tt, tt), ((tt, tt), tt)) $
    sets ! (addr ! (through ! refl (stop !))) refl (tt, tt) $
    let N = triple_of 𝓛 number.signature (number.spec 𝓛 𝓜.mem 𝓡.returns) in
    let zn : N.Ghost = (((κs.0, tt), (qs.0, tt), tt, (b, tt), (shr_vals b, tt)), tt) in
    nothing ! $ move ! (1 ∷ 0 ∷ []) $ join ! $ nothing ! $ move ! (2 ∷ 0 ∷ []) $ join ! $ join ! $
    nothing ! $ move ! (1 ∷ 0 ∷ []) $ use2 𝓛 (raw (N.pre zn)) (id⊢ 𝓤 _) $
    calls_at ! fm N (numbered 𝓤 𝓛 𝓜 𝓡 (code.calls-pybuf_buffer::buffer::PyBuffer::number 𝓡.env wired)) zn (and_then ! (get ! refl) (no_more !)) (λ v.
    use1 𝓛 (later (some (λ (n : ℕ). ((‵ (flft κs.0 qs.0) ⊛ ‵ ftrue) ⊛ ‵ (usize.own_val n (v ∷ []))) ⊛
    some (λ (ws : Unit {0} × Unit {0}). ‵ (lasts number.ended zn.0.0 zn.0.3 ws) ⊛ raw (fact 𝓤 (n ≡ k)))))) (id⊢ 𝓤 _) $
    await ! tt $ pick ! (λ n. split ! $ split ! $ split ! $ move ! (3 ∷ []) $ pick ! (λ ws. split ! $ drop ! $ heard ! _ (λ is_number.
    move ! (2 ∷ []) $ facts ! usize _ (shows 𝓛 usize) n (v ∷ []) (λ is.
    let low : k < 2 ^ 64 = subst (λ (m : ℕ). m < 2 ^ 64) is_number is.1 in
    lands_as ! (ap only is.0 ∙ ap (λ (m : ℕ). vint w64 m) is_number) refl (tt, record { fits = low }) $
    -- [the buffer's token; nothing; the exporter; its token]
    let G = triple_of 𝓛 lends.signature (lends.spec 𝓛 𝓜.mem 𝓡.returns) in
    let z : G.Ghost = (((κ, tt), (q, tt), tt, (s, (k, tt)), (mut_vals s, (vint w64 k ∷ [], tt))), tt) in
    nothing ! $ owned ! usize _ (uint_Makes 𝓛 w64) k _ (refl, low) $ join ! $ move ! (3 ∷ 0 ∷ []) $ join ! $
    nothing ! $ move ! (4 ∷ 0 ∷ []) $ join ! $ join ! $
    use0 𝓛 (raw (fact 𝓤 ((layout_of s.now.exporter k).readonly ≡ false))) (fact_i 𝓤 _ (emp 𝓤) writable) $ use0 𝓛 (raw (fact 𝓤 (is_live s.now.exporter k ≡ true))) (fact_i 𝓤 _ (emp 𝓤) living) $ join ! $
    move ! (1 ∷ 0 ∷ []) $ use2 𝓛 (raw (G.pre z)) (id⊢ 𝓤 _) $
    calls_at ! fm G (lent 𝓤 𝓛 𝓜 𝓡 (code.calls-pybuf_buffer::lending::all_bytes 𝓡.env wired)) z (and_then ! (get ! refl) (and_then ! (get ! refl) (no_more !))) (λ w.
    use1 𝓛 (later (some (λ (r : MutBor (List ℕ)). ((‵ (flft κ q) ⊛ ‵ ftrue) ⊛ ‵ (Lent.own_val r (w ∷ []))) ⊛
    some (λ (ws : Unit {0} × (Unit {0} × Unit {0})). ‵ (lasts lends.ended z.0.0 z.0.3 ws) ⊛ (‵ (follows S (Array u8 0) s.ghost_name r.ghost_name (overwritten s.now)) ⊛ raw (fact 𝓤 (r.now ≡ s.now.exporter.bytes))))))) (id⊢ 𝓤 _) $
    await ! tt $ pick ! (λ r. split ! $ split ! $ split ! $ move ! (3 ∷ []) $ pick ! (λ ws. split ! $ drop ! $ split ! $ move ! (1 ∷ []) $ heard ! _ (λ value.
    move ! (3 ∷ []) $ peeks ! Lent _ (shows 𝓛 Lent) r (w ∷ []) (λ lies.
    let v = slice_val r.ref_ptr (length r.now) in
    rewrite ! 0 (λ (u : Val). ‵ (Lent.own_val r (u ∷ []))) (ap only lies.0.0) refl $
    lands_as ! (ap only lies.0.0) refl (tt, (tt, (record { fits = lies.0.1.0 }, tt))) $
    returns ! (look_at ! 0 refl) $ free_all ! refl $ keep ! (0 ∷ 1 ∷ 2 ∷ 4 ∷ []) $
    -- [the slice; the clause; the exporter's token; the buffer's token]
    suffices ! _ (ends_at 𝓛 f.ended stayed c y v r (tt, (tt, tt)) (tt, (tt, tt))) $
    nothing ! $ nothing ! $ fjoin ! $ nothing ! $ fjoin ! $ join ! $ nothing ! $ move ! (3 ∷ 0 ∷ []) $ join ! $ move ! (3 ∷ 0 ∷ []) $ join ! $ join ! $
    frame ! $ says ! value $ done !))))))))))))))
