-- What the code of an effect must do, by the definition of the effect.
use Rattle.std.specs.Prelude.{◌≡◌, ℕ, ℤ, pos, map, Result, Ok, Err, IfOk, MatchResult}
use Rattle.std.specs.Result.{result_map_both}
use Rattle.std.specs.declared.vec.Vec.{Vec}
use Rattle.std.specs.declared.alloc.Global.{Global}
use Rattle.pybuf_value.specs.declared.faults.Fault.{Fault}
use Rattle.pybuf_value.specs.declared.halt.Halt.{Halt}
use Rattle.pybuf_value.specs.Halting.{Answered, Settled}
use Rattle.pybuf_value.specs.declared.values.Item.{Item}
use Rattle.pybuf_command.specs.declared.commands.LocalReply.{LocalReply}
use Rattle.pybuf_command.specs.declared.commands.LocalReply.TheVariants as reply
use Rattle.pybuf_state.specs.declared.parts.Parts.{Parts}
use Rattle.pybuf_state.specs.Exporter.{Exporter, exports_of}
use Rattle.pybuf_state.specs.Sound.{IsSoundExporter}

-- the exporter that the parts keep
abbrev pub exporter_of : Parts → Exporter
exporter_of p = record { kind = p.kind; bytes = p.bytes.items; views = p.views.items; iterators = p.iterators.items }

-- what holds of the parts: their count is that of the unreleased views, and the exporter that they keep is sound
pub record IsWhole (p : Parts) : Type 0 where
  pub counted : p.exports ≡ exports_of (exporter_of p)
  pub sound : IsSoundExporter (exporter_of p)

-- The answer is what the effect says: its reply and its exporter, or its fault and the exporter as it was before. If
-- memory runs out, the exporter is as it was before.
abbrev pub Answers : Result (Exporter × LocalReply) Fault → Exporter → Result LocalReply Halt → Exporter → Type 0
Answers effect old result new = Settled result (λ r. (new, r)) (new ≡ old) (new ≡ old) effect

-- the same for an effect that only reads
abbrev pub Reads : Result (Exporter × LocalReply) Fault → Exporter → Result LocalReply Halt → Type 0
Reads effect e result = Answered result (λ r. (e, r)) effect

-- what was made keeps this exporter, unless memory runs out
abbrev pub MakesExporter : {E : Type 0} → Exporter → Result Parts E → Type 0
MakesExporter wanted result = IfOk result (λ made. exporter_of made ≡ wanted)

-- ---- of kept parts

-- The answer of an effect on the exporter that the parts keep, with the exporter that they keep afterwards.
abbrev pub AnswersIn : Parts → (Exporter → Result (Exporter × LocalReply) Fault) → Result LocalReply Halt → Parts → Type 0
AnswersIn old effect result new = Answers (effect (exporter_of old)) (exporter_of old) result (exporter_of new)

-- The answer of an effect that only reads the exporter that the parts keep.
abbrev pub ReadsIn : Parts → (Exporter → Result (Exporter × LocalReply) Fault) → Result LocalReply Halt → Type 0
ReadsIn parts effect result = Reads (effect (exporter_of parts)) (exporter_of parts) result

-- ---- a change

-- What a change makes is the new value, or its fault is that of the result.
abbrev pub ChangesTo : {A X E : Type 0} → Result A E → Result X E → A → Type 0
ChangesTo change result new = MatchResult result (λ _. change ≡ Ok new) (λ fault. change ≡ Err fault)

-- ---- what is given without a reply, as that reply

-- the number of a new view
abbrev pub as_view : Result ℕ Halt → Result LocalReply Halt
as_view result = result_map_both reply.View (λ halt. halt) result

-- nothing, where there is nothing to say
abbrev pub as_done : Result (Unit {0}) Halt → Result LocalReply Halt
as_done result = result_map_both (λ _. reply.Ok) (λ halt. halt) result

-- an item
abbrev pub as_item : Result Item Halt → Result LocalReply Halt
as_item result = result_map_both reply.Item (λ halt. halt) result

-- bytes
abbrev pub as_bytes : Result (Vec ℕ Global) Halt → Result LocalReply Halt
as_bytes result = result_map_both (λ bytes. reply.Bytes bytes.items) (λ halt. halt) result

-- counts, such as a shape
abbrev pub as_counts : Result (Vec ℕ Global) Halt → Result LocalReply Halt
as_counts result = result_map_both (λ counts. reply.Numbers (map (λ n. pos n) counts.items)) (λ halt. halt) result

-- numbers, such as strides
abbrev pub as_numbers : Result (Vec ℤ Global) Halt → Result LocalReply Halt
as_numbers result = result_map_both (λ numbers. reply.Numbers numbers.items) (λ halt. halt) result
