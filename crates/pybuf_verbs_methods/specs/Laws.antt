-- Laws of these effects, and of what handles name.
use Rattle.std.specs.Prelude.{◌≡◌, ℕ, List, Option}
use Rattle.pybuf_value.specs.declared.snaps.Snap.{Snap}
use Rattle.pybuf_value.specs.declared.values.Value.{Value}
use Rattle.pybuf_value.specs.Snaps.{snap_of}
use Rattle.pybuf_command.specs.declared.methods.MethodCall.{MethodCall}
use Rattle.pybuf_state.specs.Exporter.{Exporter}
use Rattle.pybuf_command.specs.declared.loans.Loan.{Loan}
use Rattle.pybuf_state.specs.Keeps.{IsSafe}
use Rattle.pybuf_state.specs.Loans.{lents_by, snap_in, snaps_of}
use Rattle.pybuf_verbs_methods.specs.Calls.{call_of_own, contains_of_own, hex_of_view}
use Rattle.pybuf_verbs_methods.specs.Names.{all_paired, named_among}

abbrev pub CallIsSafe : Type 0
CallIsSafe = (e : Exporter) (call : MethodCall) (pairs : List (ℕ × Snap)) → IsSafe e (call_of_own e call pairs)

abbrev pub ContainsIsSafe : Type 0
ContainsIsSafe = (e : Exporter) (v : Value) (pairs : List (ℕ × Snap)) → IsSafe e (contains_of_own e v pairs)

abbrev pub HexIsSafe : Type 0
HexIsSafe = (e : Exporter) (k : ℕ) (sep group : Option Value) (pairs : List (ℕ × Snap)) → IsSafe e (hex_of_view e k sep group pairs)

-- The pairs of some handles name what a handle names if it is one of these handles, and otherwise nothing.
abbrev pub NamesAreFound : Type 0
NamesAreFound = (named : ℕ → Option Snap) (handles : List ℕ) (handle : ℕ) → snap_of (all_paired named handles) handle ≡ named_among named handles handle

-- The pairs of what is lent for some handles are the pairs of these handles and what each names.
abbrev pub LentsArePaired : Type 0
LentsArePaired = (e : Exporter) (named : ℕ → Option Loan) (handles : List ℕ) → snaps_of (lents_by e named handles) ≡ all_paired (λ h. snap_in e (named h)) handles
