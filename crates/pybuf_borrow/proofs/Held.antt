-- A borrow after its bytes were written.
use Rattle.std.proofs.Common.{◌≡◌, ℕ, List, true, ap, subst}
use Rattle.std.specs.Borrow.{MutBor}
use Rattle.std.proofs.Math.Bool.{Bool-set}
use Rattle.pybuf_command.specs.declared.kinds.Subject.{Subject}
use Rattle.pybuf_command.specs.declared.kinds.Subject.TheVariants as subject
use Rattle.pybuf_exporter.specs.Stored.{StoredExporter}
use Rattle.pybuf_exporter.specs.Lending.{overwritten, run_written}
use Rattle.pybuf_borrow.specs.Writable.{is_writable}
use Rattle.pybuf_borrow.specs.Holding.{after_writes}
use Rattle.pybuf_borrow.specs.declared.memory.ArgMemoryBuffer.{ArgMemoryBuffer}

abbrev pub borrow_of : (s : MutBor StoredExporter) (u : Subject) → is_writable s.now.exporter u ≡ true → ArgMemoryBuffer
borrow_of s u p = record { state = s; subject = u; writable = p }

-- It doesn't matter which proof a borrow has.
any_proof : (s : MutBor StoredExporter) (u : Subject) (p q : is_writable s.now.exporter u ≡ true) → borrow_of s u p ≡ borrow_of s u q
any_proof s u p q = ap (borrow_of s u) (Bool-set _ _ p q)

pub written_all : (s : MutBor StoredExporter) (u : Subject) (w : List ℕ) (p : is_writable (overwritten s.now w).exporter u ≡ true) (q : is_writable s.now.exporter u ≡ true) → u ≡ subject.Own
    → borrow_of (record s { now = overwritten s.now w }) u p ≡ after_writes (borrow_of s u q) w
written_all s subject.Own w p q is = any_proof (record s { now = overwritten s.now w }) subject.Own p q
written_all s (subject.View k) w p q is = absurd (cc)
written_all s (subject.Iter k) w p q is = absurd (cc)

pub written_view : (s : MutBor StoredExporter) (u : Subject) (k : ℕ) (w : List ℕ) (p : is_writable (run_written s.now k w).exporter u ≡ true) (q : is_writable s.now.exporter u ≡ true) → u ≡ subject.View k
    → borrow_of (record s { now = run_written s.now k w }) u p ≡ after_writes (borrow_of s u q) w
written_view s subject.Own k w p q is = absurd (cc)
written_view s (subject.View j) k w p q is =
    let same : j ≡ k = cc in
    subst (λ (n : ℕ). (p : is_writable (run_written s.now n w).exporter (subject.View j) ≡ true) → borrow_of (record s { now = run_written s.now n w }) (subject.View j) p ≡ after_writes (borrow_of s (subject.View j) q) w) same
    (λ p. any_proof (record s { now = run_written s.now j w }) (subject.View j) p q) p
written_view s (subject.Iter j) k w p q is = absurd (cc)
