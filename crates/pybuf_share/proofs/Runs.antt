-- What the sessions that have carried out their scripts make of a history.
use Rattle.std.proofs.Common.{◌≡◌, ℕ, zero, suc, ◌+◌, ◌<◌, ◌≤◌, Bool, true, false, nat_lt, List, [], ◌∷◌, ◌++◌, length, map, get_or, drop, Option, Some, None, slice_get, Result, Ok, Err, IfOk, IfErr, if◌then◌else◌, refl, ap, sym, ◌∙◌, arith, subst}
use Rattle.std.specs.List.{All, sum_by}
use Rattle.std.proofs.lemmas.List.Elements.{All-nil, All-cons, All-head, All-tail, All-append}
use Rattle.std.proofs.lemmas.List.Sums.{sum_by-cons}
use Rattle.std.proofs.lemmas.Option.{none-some, same_Some}
use Rattle.pybuf_command.specs.declared.commands.LocalCommand.{LocalCommand}
use Rattle.pybuf_command.specs.declared.kinds.ExporterKind.{ExporterKind}
use Rattle.pybuf_share.specs.declared.entries.Entry.{Entry}
use Rattle.pybuf_share.specs.declared.entries.Receipt.{Receipt}
use Rattle.pybuf_share.specs.declared.joined.FinishFault.{FinishFault}
use Rattle.pybuf_share.specs.declared.joined.FinishFault.TheVariants as fault
use Rattle.pybuf_share.specs.declared.joined.Joined.{Joined}
use Rattle.pybuf_share.specs.History.{Opening}
use Rattle.pybuf_share.specs.Sessions.{Asker, sessions_from}
use Rattle.pybuf_share.specs.Finishing.{numbers_from, AreAll, parts_of, receipts_of, first_fall, order_fault, order_fault_or, IsJoined, ArePlain, AreTheirs, RefusesAtLast}
use Rattle.pybuf_share.specs.Joining.{entries_of, Follows}
use Rattle.pybuf_share.specs.Working.{Work, HasDone, HaveDone, Post, post_of, works_from}
use Rattle.pybuf_share.specs.Running.{IsRun, IsOfScripts, IsNotRun}
use Rattle.pybuf_share.proofs.Follows.{Named, all_named}
use Rattle.pybuf_share.proofs.Theirs.{All-behind}
use Rattle.pybuf_share.proofs.Works.{many_sessions}

-- The numbers of the workers' sessions are those of their posts.
numbers_by : (ws : List Work) → map (λ s. s.number) (map (λ w. w.asker) ws) ≡ map (λ (p : Post). p.number) (map post_of ws)
numbers_by [] = refl
numbers_by (w ∷ ws) = ap (λ (l : List ℕ). w.asker.number ∷ l) (numbers_by ws)

scripts_by : (ws : List Work) → map (λ w. w.script) ws ≡ map (λ (p : Post). p.script) (map post_of ws)
scripts_by [] = refl
scripts_by (w ∷ ws) = ap (λ (l : List (List LocalCommand)). w.script ∷ l) (scripts_by ws)

parts_by : (ws : List Work) → parts_of (map (λ w. w.asker) ws) ≡ sum_by (λ (p : Post). p.parts) (map post_of ws)
parts_by [] = refl
parts_by (w ∷ ws) =
    let rest = parts_by ws in
    let here = sum_by-cons (λ (s : Asker). s.parts) w.asker (map (λ (v : Work). v.asker) ws) in
    let there = sum_by-cons (λ (p : Post). p.parts) (post_of w) (map post_of ws) in
    omega (arith, rest, here, there)

-- the sessions before the workers begin
askers_before : (k : ℕ) (scripts : List (List LocalCommand)) → map (λ w. w.asker) (works_from k scripts) ≡ sessions_from k (length scripts)
askers_before k [] = refl
askers_before k (script ∷ scripts) = ap (λ (l : List Asker). (record { number = k; receipts = []; parts = 1; calls = 0; is_plain = true }) ∷ l) (askers_before (suc k) scripts)

scripts_before : (k : ℕ) (scripts : List (List LocalCommand)) → map (λ w. w.script) (works_from k scripts) ≡ scripts
scripts_before k [] = refl
scripts_before k (script ∷ scripts) = ap (λ (l : List (List LocalCommand)). script ∷ l) (scripts_before (suc k) scripts)

-- The scripts are the same afterwards.
scripts_after : (scripts : List (List LocalCommand)) (ws : List Work) → map post_of ws ≡ map post_of (works_from 0 scripts) → map (λ w. w.script) ws ≡ scripts
scripts_after scripts ws posts = scripts_by ws ∙ ap (λ (ps : List Post). map (λ (p : Post). p.script) ps) posts ∙ sym (scripts_by (works_from 0 scripts)) ∙ scripts_before 0 scripts

-- As many sessions have done their scripts as there are scripts.
many_done : (scripts : List (List LocalCommand)) (ss : List Asker) → HaveDone scripts ss → length ss ≡ length scripts
many_done [] [] done = refl
many_done [] (s ∷ ss) done = absurd done
many_done (script ∷ scripts) [] done = absurd done
many_done (script ∷ scripts) (s ∷ ss) done = let rest = many_done scripts ss done.1 in omega (arith, rest)

-- The sessions are still all sessions.
still_all : (parts : ℕ) (scripts : List (List LocalCommand)) (ws : List Work) (made ss : List Asker) → made ≡ sessions_from 0 (length scripts) → AreAll parts made → map post_of ws ≡ map post_of (works_from 0 scripts) → ss ≡ map (λ w. w.asker) ws
    → HaveDone scripts ss → AreAll parts ss
still_all parts scripts ws made ss made_is all posts are done =
    let before = works_from 0 scripts in
    let start : map (λ (w : Work). w.asker) before ≡ made = askers_before 0 scripts ∙ sym made_is in
    let len : length made ≡ length ss = ap length made_is ∙ many_sessions 0 (length scripts) ∙ sym (many_done scripts ss done) in
    record {
      numbers =
          ap (map (λ (s : Asker). s.number)) are
          ∙ numbers_by ws
          ∙ ap (λ (ps : List Post). map (λ (p : Post). p.number) ps) posts
          ∙ sym (numbers_by before)
          ∙ ap (map (λ (s : Asker). s.number)) start
          ∙ all.numbers
          ∙ ap (numbers_from 0) len;
      whole = ap parts_of are ∙ parts_by ws ∙ ap (λ (ps : List Post). sum_by (λ (p : Post). p.parts) ps) posts ∙ sym (parts_by before) ∙ ap parts_of start ∙ all.whole;
    }

all_plain : (scripts : List (List LocalCommand)) (ss : List Asker) → HaveDone scripts ss → ArePlain ss
all_plain [] [] done = All-nil (λ (s : Asker). s.is_plain ≡ true)
all_plain [] (s ∷ ss) done = absurd done
all_plain (script ∷ scripts) [] done = absurd done
all_plain (script ∷ scripts) (s ∷ ss) done = All-cons (λ (t : Asker). t.is_plain ≡ true) s ss done.0.plain (all_plain scripts ss done.1)

-- the session that did a script
record DoneAt (ss : List Asker) (i : ℕ) (script : List LocalCommand) : Type 0 where
  pub session : Asker
  pub there : slice_get ss i ≡ Some session
  pub done : HasDone script session

done_at : (scripts : List (List LocalCommand)) (ss : List Asker) (i : ℕ) (script : List LocalCommand) → HaveDone scripts ss → slice_get scripts i ≡ Some script → DoneAt ss i script
done_at [] ss i script done is = absurd (none-some {A = List LocalCommand} script is)
done_at (x ∷ scripts) [] i script done is = absurd done
done_at (x ∷ scripts) (s ∷ ss) zero script done is = record { session = s; there = refl; done = subst (λ (l : List LocalCommand). HasDone l s) (same_Some {A = List LocalCommand} x script is) done.0 }
done_at (x ∷ scripts) (s ∷ ss) (suc i) script done is = let rest = done_at scripts ss i script done.1 is in record { session = rest.session; there = rest.there; done = rest.done }

first_number : (k : ℕ) (s : Asker) (ss : List Asker) → map (λ t. t.number) (s ∷ ss) ≡ numbers_from k (length (s ∷ ss)) → s.number ≡ k
first_number k s ss are = ap (λ (l : List ℕ). get_or l 0 0) are

other_numbers : (k : ℕ) (s : Asker) (ss : List Asker) → map (λ t. t.number) (s ∷ ss) ≡ numbers_from k (length (s ∷ ss)) → map (λ t. t.number) ss ≡ numbers_from (suc k) (length ss)
other_numbers k s ss are = ap (λ (l : List ℕ). drop 1 l) are

number_at : (k : ℕ) (ss : List Asker) (i : ℕ) (s : Asker) → map (λ t. t.number) ss ≡ numbers_from k (length ss) → slice_get ss i ≡ Some s → s.number ≡ k + i
number_at k [] i s are is = absurd (none-some {A = Asker} s is)
number_at k (t ∷ ss) zero s are is = let same : k ≡ k + 0 = omega arith in sym (ap (λ (x : Asker). x.number) (same_Some {A = Asker} t s is)) ∙ first_number k t ss are ∙ same
number_at k (t ∷ ss) (suc i) s are is = let same : suc k + i ≡ k + suc i = omega arith in number_at (suc k) ss i s (other_numbers k t ss are) is ∙ same

all_at : (P : Asker → Type 0) (ss : List Asker) (i : ℕ) (s : Asker) → All P ss → slice_get ss i ≡ Some s → P s
all_at P [] i s all is = absurd (none-some {A = Asker} s is)
all_at P (t ∷ ss) zero s all is = subst P (same_Some {A = Asker} t s is) (All-head P t ss all)
all_at P (t ∷ ss) (suc i) s all is = all_at P ss i s (All-tail P t ss all) is

-- The entries of a session that has done its script follow it.
followed : (scripts : List (List LocalCommand)) (ss : List Asker) (entries : List Entry) → map (λ s. s.number) ss ≡ numbers_from 0 (length ss) → HaveDone scripts ss → AreTheirs ss entries → (i : ℕ) (script : List LocalCommand) → slice_get scripts i ≡ Some script
    → Follows (entries_of i entries) script
followed scripts ss entries numbers done theirs i script is =
    let at = done_at scripts ss i script done is in
    let same : 0 + i ≡ i = omega arith in
    let number : at.session.number ≡ i = number_at 0 ss i at.session numbers at.there ∙ same in
    let own : entries_of at.session.number entries ≡ map (λ (r : Receipt). r.entry) at.session.receipts = all_at (λ (s : Asker). entries_of s.number entries ≡ map (λ (r : Receipt). r.entry) s.receipts) ss i at.session theirs.each at.there in
    subst (λ (xs : List Entry). Follows xs script) (sym own ∙ ap (λ (n : ℕ). entries_of n entries) number) at.done.follows

-- the history that joins them
is_run : (k : ExporterKind) (bytes : List ℕ) (scripts : List (List LocalCommand)) (ss : List Asker) (parts : ℕ) (joined : Joined) → AreAll parts ss → HaveDone scripts ss → IsJoined k bytes ss joined → (ArePlain ss → AreTheirs ss joined.entries)
    → IsRun k bytes scripts joined
is_run k bytes scripts ss parts joined all done joined_of theirs_of =
    let plain = all_plain scripts ss done in
    let theirs = theirs_of plain in
    let many = many_done scripts ss done in
    record {
      sessions = ss;
      numbers = all.numbers ∙ ap (numbers_from 0) many;
      plain = plain;
      joined_of = joined_of;
      theirs = theirs;
      joins = record { known = subst (λ (n : ℕ). All (λ (x : Entry). x.session < n) joined.entries) many theirs.known; each = followed scripts ss joined.entries all.numbers done theirs };
    }

-- These numbers don't rise.
fall_by : (b : Bool) (x y : ℕ) (others : Option (ℕ × ℕ)) (pair : ℕ × ℕ) → nat_lt x y ≡ b → (others ≡ Some pair → pair.1 ≤ pair.0) → (if b then others else Some (x, y)) ≡ Some pair → pair.1 ≤ pair.0
fall_by true x y others pair is rest e = rest e
fall_by false x y others pair is rest e =
    let low : y ≤ x = grind (arith, is) in
    subst (λ (p : ℕ × ℕ). p.1 ≤ p.0) (same_Some {A = ℕ × ℕ} (x, y) pair e) low

fall_is : (rs : List Receipt) (pair : ℕ × ℕ) → first_fall rs ≡ Some pair → pair.1 ≤ pair.0
fall_is [] pair e = absurd (none-some {A = ℕ × ℕ} pair e)
fall_is (r ∷ []) pair e = absurd (none-some {A = ℕ × ℕ} pair e)
fall_is (r ∷ t ∷ rs) pair e = fall_by (nat_lt r.at t.at) r.at t.at (first_fall (t ∷ rs)) pair refl (fall_is (t ∷ rs) pair) e

abbrev session_told : FinishFault → ℕ
session_told (fault.Order session before after) = session
session_told _ = 0

abbrev before_told : FinishFault → ℕ
before_told (fault.Order session before after) = before
before_told _ = 0

abbrev after_told : FinishFault → ℕ
after_told (fault.Order session before after) = after
after_told _ = 0

falls_in_by : (s : Asker) (n session before after : ℕ) (fall : Option (ℕ × ℕ)) (others : Option FinishFault) → s.number < n → ((pair : ℕ × ℕ) → fall ≡ Some pair → pair.1 ≤ pair.0) → (others ≡ Some (fault.Order session before after) → (session < n) × (after ≤ before))
    → order_fault_or s.number fall others ≡ Some (fault.Order session before after) → (session < n) × (after ≤ before)
falls_in_by s n session before after None others low falls rest e = rest e
falls_in_by s n session before after (Some pair) others low falls rest e =
    let same = same_Some {A = FinishFault} (fault.Order s.number pair.0 pair.1) (fault.Order session before after) e in
    let number : s.number ≡ session = ap session_told same in
    let first : pair.0 ≡ before = ap before_told same in
    let second : pair.1 ≡ after = ap after_told same in
    let fall = falls pair refl in
    (omega (arith, number, low), omega (arith, first, second, fall))

falls_in : (k n : ℕ) (ss : List Asker) (session before after : ℕ) → k + length ss ≤ n → map (λ s. s.number) ss ≡ numbers_from k (length ss) → order_fault ss ≡ Some (fault.Order session before after) → (session < n) × (after ≤ before)
falls_in k n [] session before after most are e = absurd (none-some {A = FinishFault} (fault.Order session before after) e)
falls_in k n (s ∷ ss) session before after most are e =
    let here : s.number ≡ k = first_number k s ss are in
    falls_in_by s n session before after (first_fall s.receipts) (order_fault ss) (omega (arith, here, most)) (fall_is s.receipts) (falls_in (suc k) n ss session before after (omega (arith, most)) (other_numbers k s ss are)) e

-- Each receipt is of a command of a script.
all_of_scripts : (whole : List (List LocalCommand)) (k : ℕ) (scripts : List (List LocalCommand)) (ss : List Asker) → ((i : ℕ) (script : List LocalCommand) → slice_get scripts i ≡ Some script → slice_get whole (k + i) ≡ Some script)
    → map (λ s. s.number) ss ≡ numbers_from k (length ss) → HaveDone scripts ss → All (λ r. IsOfScripts whole r.entry) (receipts_of ss)
all_of_scripts whole k [] [] at are done = All-nil (λ (r : Receipt). IsOfScripts whole r.entry)
all_of_scripts whole k [] (s ∷ ss) at are done = absurd done
all_of_scripts whole k (script ∷ scripts) [] at are done = absurd done
all_of_scripts whole k (script ∷ scripts) (s ∷ ss) at are done =
    let here : s.number ≡ k = first_number k s ss are in
    let same : k ≡ k + 0 = omega arith in
    let named : All (Named script) s.receipts = all_named s.receipts script done.0.follows in
    let has : slice_get whole s.number ≡ Some script = ap (λ (n : ℕ). slice_get whole n) (here ∙ same) ∙ at 0 script refl in
    let P : Receipt → Type 0 = λ r. IsOfScripts whole r.entry in
    let first : All P s.receipts =
    λ i d within.
    let one = named i d within in
    record { script = script; has = ap (λ (n : ℕ). slice_get whole n) (done.0.own i d within) ∙ has; command = one.0; one_of = one.2; replies = one.1; named = one.3 } in
    All-append P s.receipts (receipts_of ss) first
    (
    all_of_scripts whole (suc k) scripts ss (λ i x is. let next : suc k + i ≡ k + suc i = omega arith in ap (λ (n : ℕ). slice_get whole n) next ∙ at (suc i) x is) (other_numbers k s ss are) done.1
    )

-- why no history joins them
is_not_run : (k : ExporterKind) (bytes : List ℕ) (scripts : List (List LocalCommand)) (ss : List Asker) (parts : ℕ) (f : FinishFault) → AreAll parts ss → HaveDone scripts ss → RefusesAtLast (record { kind = k; bytes = bytes }) ss f → IsNotRun k bytes scripts f
is_not_run k bytes scripts ss parts fault.NoMemory all done why = tt
is_not_run k bytes scripts ss parts (fault.Opening given_kind given kept_kind kept) all done why = why
is_not_run k bytes scripts ss parts (fault.Order session before after) all done why =
    let many = many_done scripts ss done in
    let both = falls_in 0 (length scripts) ss session before after (omega (arith, many)) all.numbers why in
    record { has = both.0; falls = both.1 }
is_not_run k bytes scripts ss parts (fault.Disagree at kept got) all done why =
    let P : Receipt → Type 0 = λ r. IsOfScripts scripts r.entry in
    let each : All P (receipts_of ss) = all_of_scripts scripts 0 scripts ss (λ i script is. let same : i ≡ 0 + i = omega arith in ap (λ (n : ℕ). slice_get scripts n) (sym same) ∙ is) all.numbers done in
    let here : P why.receipt = All-head P why.receipt why.later (All-behind P why.earlier (why.receipt ∷ why.later) (subst (λ (rs : List Receipt). All P rs) why.are each)) in
    record { of_scripts = subst (λ (x : Entry). IsOfScripts scripts x) (sym why.shown) here; differs = why.differs }

-- the sessions of all workers at the end
pub record AreReady (parts : ℕ) (scripts : List (List LocalCommand)) (ss : List Asker) : Type 0 where
  pub all : AreAll parts ss
  pub done : HaveDone scripts ss

pub ready : (parts : ℕ) (scripts : List (List LocalCommand)) (ws : List Work) (made ss : List Asker) → made ≡ sessions_from 0 (length scripts) → AreAll parts made → map post_of ws ≡ map post_of (works_from 0 scripts) → ss ≡ map (λ w. w.asker) ws
    → HaveDone (map (λ w. w.script) ws) ss → AreReady parts scripts ss
ready parts scripts ws made ss made_is all posts are done =
    let whole : HaveDone scripts ss = subst (λ (l : List (List LocalCommand)). HaveDone l ss) (scripts_after scripts ws posts) done in
    record { all = still_all parts scripts ws made ss made_is all posts are whole; done = whole }

pub ok_run : (o : Opening) (k : ExporterKind) (bytes : List ℕ) (scripts : List (List LocalCommand)) (ss : List Asker) (parts : ℕ) (r : Result Joined FinishFault) → o ≡ record { kind = k; bytes = bytes } → AreReady parts scripts ss → IfOk r (λ j. IsJoined o.kind o.bytes ss j)
    → (ArePlain ss → IfOk r (λ j. AreTheirs ss j.entries)) → IfOk r (λ j. IsRun k bytes scripts j)
ok_run o k bytes scripts ss parts (Ok j) is are joined theirs = is_run k bytes scripts ss parts j are.all are.done (subst (λ (p : Opening). IsJoined p.kind p.bytes ss j) is joined) theirs
ok_run o k bytes scripts ss parts (Err f) is are joined theirs = tt

pub err_run : (o : Opening) (k : ExporterKind) (bytes : List ℕ) (scripts : List (List LocalCommand)) (ss : List Asker) (parts : ℕ) (r : Result Joined FinishFault) → o ≡ record { kind = k; bytes = bytes } → AreReady parts scripts ss → IfErr r (λ f. RefusesAtLast o ss f)
    → IfErr r (λ f. IsNotRun k bytes scripts f)
err_run o k bytes scripts ss parts (Ok j) is are why = tt
err_run o k bytes scripts ss parts (Err f) is are why = is_not_run k bytes scripts ss parts f are.all are.done (subst (λ (p : Opening). RefusesAtLast p ss f) is why)
