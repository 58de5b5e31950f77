-- Why a call gives nothing, and the answers of calls that tell it.
use Rattle.std.specs.Prelude.{◌≡◌, Option, Some, None, Result, Err, IfErr}
use Rattle.std.specs.Result.{result_map_both}
use Rattle.std.specs.Borrow.{Bor}
use Rattle.pybuf_value.specs.Halting.{Answered}
use Rattle.pybuf_value.specs.declared.faults.Fault.{Fault}
use Rattle.pybuf_value.specs.declared.halt.Halt.{Halt}
use Rattle.pybuf_value.specs.declared.halt.Halt.TheVariants as halt
use Rattle.pybuf_scoped.specs.declared.stop.Stop.{Stop}
use Rattle.pybuf_scoped.specs.declared.stop.Cause.{Cause}

-- the refusal, and none if memory ran out
abbrev pub fault_of : Halt → Option Fault
fault_of (halt.Refused f) = Some f
fault_of halt.NoMemory = None

-- the answer that the call by number gives
abbrev pub halted : {X : Type 0} → Result X Stop → Result X Halt
halted result = result_map_both (λ x. x) (λ stop. stop.halt) result

-- a call that gives nothing says what was asked
abbrev pub Tells : {X : Type 0} → Cause → Result X Stop → Type 0
Tells cause result = IfErr result (λ stop. stop.cause ≡ cause)

-- a refusal is that of a definition; want of memory says nothing of it
abbrev pub RefusedAs : {A : Type 0} → Result A Fault → Halt → Type 0
RefusedAs given (halt.Refused f) = given ≡ Err f
RefusedAs given halt.NoMemory = Unit {0}

-- a call that gives nothing is refused by a definition, or memory ran out
abbrev pub RefusedBy : {A X : Type 0} → Result A Fault → Result X Stop → Type 0
RefusedBy given result = IfErr result (λ stop. RefusedAs given stop.halt)

-- memory ran out where a call gives nothing
abbrev pub StopsForMemory : {X : Type 0} → Result X Stop → Type 0
StopsForMemory result = IfErr result (λ stop. stop.halt ≡ halt.NoMemory)

-- what is lent is what a definition says, or its refusal stands in its place
abbrev pub LendsBytes : {X : Type 0} → Result X Fault → Result (Bor X) Stop → Type 0
LendsBytes wanted result = Answered (halted result) (λ x. x.now) wanted
