-- Histories, and the sessions that agree with them or don't.
use Rattle.std.proofs.Common.{◌≡◌, ◌⊎◌, ℕ, ◌<◌, ◌≤◌, List, length, get_or, None, slice_get, sym, ◌∙◌, subst, inl, inr}
use Rattle.std.specs.List.{All}
use Rattle.std.proofs.lemmas.Bool.{cases_lt}
use Rattle.std.proofs.lemmas.Option.{none-some, slice_get-get_or, slice_get_past}
use Rattle.pybuf_command.specs.declared.kinds.ExporterKind.{ExporterKind}
use Rattle.pybuf_state.specs.Exporter.{Exporter}
use Rattle.pybuf_share.specs.declared.entries.Entry.{Entry}
use Rattle.pybuf_share.specs.declared.joined.FinishFault.{FinishFault}
use Rattle.pybuf_share.specs.declared.joined.FinishFault.TheVariants as fault
use Rattle.pybuf_share.specs.History.{Log, Opening, IsKept}
use Rattle.pybuf_share.specs.Sessions.{Asker}
use Rattle.pybuf_share.specs.Finishing.{AreAll, Agree, IsOwn, ArePlain, AreTheirs, Refuses, RefusesAtLast, calls_of}
use Rattle.pybuf_share.proofs.Theirs.{theirs}

pub theirs_are : (log : Log) (k : ExporterKind) (bytes : List ℕ) (ss : List Asker) (state : Exporter) (total parts : ℕ) → Agree log k bytes ss → IsKept log state total → AreAll parts ss → All IsOwn ss
    → total ≡ calls_of ss → ArePlain ss → AreTheirs ss log.entries
theirs_are log k bytes ss state total parts agree kept all own counted plain =
    theirs log.entries ss all.numbers agree.rise agree.stand (λ i d within. (own i d within).counted (plain i d within)) (λ i d within. (own i d within).own (plain i d within)) (sym kept.counted ∙ counted)

-- If nothing stands at a place, the list ends there or before.
ended_by : (xs : List Entry) (i : ℕ) (d : Entry) → slice_get xs i ≡ None → (i < length xs) ⊎ (length xs ≤ i) → length xs ≤ i
ended_by xs i d none (inl within) = absurd (none-some {A = Entry} (get_or xs i d) (sym none ∙ slice_get-get_or xs i d within))
ended_by xs i d none (inr past) = past

ended : (xs : List Entry) (i : ℕ) (d : Entry) → slice_get xs i ≡ None → length xs ≤ i
ended xs i d none = ended_by xs i d none (cases_lt i (length xs))

-- why the sessions are refused, as far as the receipts tell
pub refused_at_last : (log : Log) (o : Opening) (ss : List Asker) (f : FinishFault) → length log.entries ≡ calls_of ss → Refuses log o.kind o.bytes ss f → RefusesAtLast o ss f
refused_at_last log o ss fault.NoMemory counted why = tt
refused_at_last log o ss (fault.Order session before after) counted why = why.first
refused_at_last log o ss (fault.Opening given_kind given kept_kind kept) counted why = record {
  kind_given = why.kind_given;
  bytes_given = why.bytes_given;
  differ =
      λ same_kind same_bytes. why.differ (record { same_kind = sym why.kind_given ∙ same_kind ∙ why.kind_kept; same_bytes = sym why.bytes_given ∙ same_bytes ∙ why.bytes_kept });
}
refused_at_last log o ss (fault.Disagree at kept got) counted why =
    let first = why.first in
    let away = first.away in
    let r = first.receipt in
    record {
      rise = why.rise;
      receipt = r;
      earlier = first.earlier;
      later = first.later;
      are = first.are;
      place = away.place;
      shown = away.shown;
      differs = away.differs;
      absent = (
        λ none. subst (λ (n : ℕ). n ≤ at) counted (subst (λ (i : ℕ). length log.entries ≤ i) (sym away.place) (ended log.entries r.at r.entry (sym away.found ∙ none))),
        λ past. away.found ∙ slice_get_past log.entries r.at (subst (λ (i : ℕ). length log.entries ≤ i) away.place (subst (λ (n : ℕ). n ≤ at) (sym counted) past)),
      );
    }
