-- Two commands are equal by Rust's `==` exactly if they are the same.
use Rattle.std.proofs.Common.{◌≡◌, ℕ, Bool, true, List, Option, Some, None, refl, ap, ◌∙◌, subst}
use Rattle.std.specs.Bool.{Decides}
use Rattle.std.specs.Option.{option_eq}
use Rattle.std.specs.Cmp.Lexicographic.{pointwise}
use Rattle.std.proofs.lemmas.Bool.{false≢true}
use Rattle.std.proofs.lemmas.Bool.Decides.{Decides-eqb}
use Rattle.std.proofs.lemmas.Slice.Eq.{slice_eq-Decides}
use Rattle.pybuf_lemmas.proofs.Booleans.{both_of, both_hold, decided_alike, both_decided}
use Rattle.pybuf_value.specs.declared.values.CompareOp.{CompareOp}
use Rattle.pybuf_value.specs.declared.values.CompareOp.TheVariants as op
use Rattle.pybuf_value.specs.declared.values.Value.{Value}
use Rattle.pybuf_value.specs.contracts.values.CompareOpPartialEq.TheImpl as op_eq
use Rattle.pybuf_value.specs.contracts.values.ValuePartialEq.TheImpl as value_eq
use Rattle.pybuf_value.specs.Laws.{EqualExactly}
use Rattle.pybuf_command.specs.declared.kinds.Subject.{Subject}
use Rattle.pybuf_command.specs.declared.kinds.Subject.TheVariants as subject
use Rattle.pybuf_command.specs.declared.loans.Loan.{Loan}
use Rattle.pybuf_command.specs.declared.loans.Loan.TheVariants as loan
use Rattle.pybuf_command.specs.declared.methods.MethodName.{MethodName}
use Rattle.pybuf_command.specs.declared.methods.MethodName.TheVariants as name
use Rattle.pybuf_command.specs.declared.methods.MethodCall.{MethodCall}
use Rattle.pybuf_command.specs.declared.options.ByteInnerNewOptions.{ByteInnerNewOptions}
use Rattle.pybuf_command.specs.declared.commands.PropertyName.{PropertyName}
use Rattle.pybuf_command.specs.declared.commands.PropertyName.TheVariants as property
use Rattle.pybuf_command.specs.declared.commands.Verb.{Verb}
use Rattle.pybuf_command.specs.declared.commands.Verb.TheVariants as verb
use Rattle.pybuf_command.specs.declared.commands.LocalCommand.{LocalCommand}
use Rattle.pybuf_command.specs.contracts.kinds.SubjectPartialEq.TheImpl as subject_eq
use Rattle.pybuf_command.specs.contracts.loans.LoanPartialEq.TheImpl as loan_eq
use Rattle.pybuf_command.specs.contracts.methods.MethodNamePartialEq.TheImpl as name_eq
use Rattle.pybuf_command.specs.contracts.methods.MethodCallPartialEq.TheImpl as call_eq
use Rattle.pybuf_command.specs.contracts.options.ByteInnerNewOptionsPartialEq.TheImpl as options_eq
use Rattle.pybuf_command.specs.contracts.commands.PropertyNamePartialEq.TheImpl as property_eq
use Rattle.pybuf_command.specs.contracts.commands.VerbPartialEq.TheImpl as verb_eq
use Rattle.pybuf_command.specs.Loans.{equal_pairs}
use Rattle.pybuf_command.specs.Laws.{EqualCommandsAreTheSame}

-- ---- names

-- If `==` holds of each value and itself, and of no two others, it decides whether two are the same.
decided : {A : Type 0} (E : A → A → Bool) → ((x : A) → E x x ≡ true) → ((x y : A) → E x y ≡ true → x ≡ y) → (x y : A) → Decides (E x y) (x ≡ y)
decided E itself from x y = (from x y, λ p. subst (λ u. E x u ≡ true) p (itself x))

op_itself : (x : CompareOp) → op_eq.eq-value.it x x ≡ true
op_itself op.Eq = refl
op_itself op.Ne = refl
op_itself op.Lt = refl
op_itself op.Le = refl
op_itself op.Gt = refl
op_itself op.Ge = refl

from_op : (x y : CompareOp) → op_eq.eq-value.it x y ≡ true → x ≡ y
from_op op.Eq op.Eq h = refl
from_op op.Ne op.Ne h = refl
from_op op.Lt op.Lt h = refl
from_op op.Le op.Le h = refl
from_op op.Gt op.Gt h = refl
from_op op.Ge op.Ge h = refl
from_op _ _ h = absurd (false≢true h)

ops_same : (x y : CompareOp) → Decides (op_eq.eq-value.it x y) (x ≡ y)
ops_same = decided op_eq.eq-value.it op_itself from_op

property_itself : (x : PropertyName) → property_eq.eq-value.it x x ≡ true
property_itself property.Exports = refl
property_itself property.Obj = refl
property_itself property.Nbytes = refl
property_itself property.Readonly = refl
property_itself property.Itemsize = refl
property_itself property.Ndim = refl
property_itself property.Shape = refl
property_itself property.Strides = refl
property_itself property.Suboffsets = refl
property_itself property.Format = refl
property_itself property.Contiguous = refl
property_itself property.CContiguous = refl
property_itself property.FContiguous = refl

from_property : (x y : PropertyName) → property_eq.eq-value.it x y ≡ true → x ≡ y
from_property property.Exports property.Exports h = refl
from_property property.Obj property.Obj h = refl
from_property property.Nbytes property.Nbytes h = refl
from_property property.Readonly property.Readonly h = refl
from_property property.Itemsize property.Itemsize h = refl
from_property property.Ndim property.Ndim h = refl
from_property property.Shape property.Shape h = refl
from_property property.Strides property.Strides h = refl
from_property property.Suboffsets property.Suboffsets h = refl
from_property property.Format property.Format h = refl
from_property property.Contiguous property.Contiguous h = refl
from_property property.CContiguous property.CContiguous h = refl
from_property property.FContiguous property.FContiguous h = refl
from_property _ _ h = absurd (false≢true h)

properties_same : (x y : PropertyName) → Decides (property_eq.eq-value.it x y) (x ≡ y)
properties_same = decided property_eq.eq-value.it property_itself from_property

name_itself : (x : MethodName) → name_eq.eq-value.it x x ≡ true
name_itself name.Add = refl
name_itself name.Concat = refl
name_itself name.Mul = refl
name_itself name.IsAlnum = refl
name_itself name.IsAlpha = refl
name_itself name.IsAscii = refl
name_itself name.IsDigit = refl
name_itself name.IsLower = refl
name_itself name.IsSpace = refl
name_itself name.IsTitle = refl
name_itself name.IsUpper = refl
name_itself name.Lower = refl
name_itself name.Upper = refl
name_itself name.SwapCase = refl
name_itself name.Capitalize = refl
name_itself name.Title = refl
name_itself name.Hex = refl
name_itself name.FromHex = refl
name_itself name.Center = refl
name_itself name.LJust = refl
name_itself name.RJust = refl
name_itself name.Find = refl
name_itself name.RFind = refl
name_itself name.Index = refl
name_itself name.RIndex = refl
name_itself name.Count = refl
name_itself name.StartsWith = refl
name_itself name.EndsWith = refl
name_itself name.Join = refl
name_itself name.MakeTrans = refl
name_itself name.Translate = refl
name_itself name.Strip = refl
name_itself name.LStrip = refl
name_itself name.RStrip = refl
name_itself name.RemovePrefix = refl
name_itself name.RemoveSuffix = refl
name_itself name.Split = refl
name_itself name.RSplit = refl
name_itself name.Partition = refl
name_itself name.RPartition = refl
name_itself name.ExpandTabs = refl
name_itself name.SplitLines = refl
name_itself name.ZFill = refl
name_itself name.Replace = refl
name_itself name.Decode = refl

from_name : (x y : MethodName) → name_eq.eq-value.it x y ≡ true → x ≡ y
from_name name.Add name.Add h = refl
from_name name.Concat name.Concat h = refl
from_name name.Mul name.Mul h = refl
from_name name.IsAlnum name.IsAlnum h = refl
from_name name.IsAlpha name.IsAlpha h = refl
from_name name.IsAscii name.IsAscii h = refl
from_name name.IsDigit name.IsDigit h = refl
from_name name.IsLower name.IsLower h = refl
from_name name.IsSpace name.IsSpace h = refl
from_name name.IsTitle name.IsTitle h = refl
from_name name.IsUpper name.IsUpper h = refl
from_name name.Lower name.Lower h = refl
from_name name.Upper name.Upper h = refl
from_name name.SwapCase name.SwapCase h = refl
from_name name.Capitalize name.Capitalize h = refl
from_name name.Title name.Title h = refl
from_name name.Hex name.Hex h = refl
from_name name.FromHex name.FromHex h = refl
from_name name.Center name.Center h = refl
from_name name.LJust name.LJust h = refl
from_name name.RJust name.RJust h = refl
from_name name.Find name.Find h = refl
from_name name.RFind name.RFind h = refl
from_name name.Index name.Index h = refl
from_name name.RIndex name.RIndex h = refl
from_name name.Count name.Count h = refl
from_name name.StartsWith name.StartsWith h = refl
from_name name.EndsWith name.EndsWith h = refl
from_name name.Join name.Join h = refl
from_name name.MakeTrans name.MakeTrans h = refl
from_name name.Translate name.Translate h = refl
from_name name.Strip name.Strip h = refl
from_name name.LStrip name.LStrip h = refl
from_name name.RStrip name.RStrip h = refl
from_name name.RemovePrefix name.RemovePrefix h = refl
from_name name.RemoveSuffix name.RemoveSuffix h = refl
from_name name.Split name.Split h = refl
from_name name.RSplit name.RSplit h = refl
from_name name.Partition name.Partition h = refl
from_name name.RPartition name.RPartition h = refl
from_name name.ExpandTabs name.ExpandTabs h = refl
from_name name.SplitLines name.SplitLines h = refl
from_name name.ZFill name.ZFill h = refl
from_name name.Replace name.Replace h = refl
from_name name.Decode name.Decode h = refl
from_name _ _ h = absurd (false≢true h)

names_same : (x y : MethodName) → Decides (name_eq.eq-value.it x y) (x ≡ y)
names_same = decided name_eq.eq-value.it name_itself from_name

-- ---- arguments

abbrev ValuesSame : Type 0
ValuesSame = (v w : Value) → Decides (value_eq.eq-value.it v w) (v ≡ w)

maybe_itself : ValuesSame → (v : Option Value) → option_eq value_eq.eq-value.it v v ≡ true
maybe_itself e None = refl
maybe_itself e (Some v) = (e v v).1 refl

from_maybe : ValuesSame → (v w : Option Value) → option_eq value_eq.eq-value.it v w ≡ true → v ≡ w
from_maybe e None None h = refl
from_maybe e (Some v) (Some w) h = ap Some ((e v w).0 h)
from_maybe e _ _ h = absurd (false≢true h)

maybes_same : ValuesSame → (v w : Option Value) → Decides (option_eq value_eq.eq-value.it v w) (v ≡ w)
maybes_same e = decided (option_eq value_eq.eq-value.it) (maybe_itself e) (from_maybe e)

lists_same : ValuesSame → (vs ws : List Value) → Decides (pointwise value_eq.eq-value.it vs ws) (vs ≡ ws)
lists_same e vs ws = slice_eq-Decides e vs ws (pointwise value_eq.eq-value.it vs ws) refl

abbrev call_with : MethodName → List Value → MethodCall
call_with name args = record { name = name; args = args }

by_call : (x y : MethodCall) → (x.name ≡ y.name) × (x.args ≡ y.args) → x ≡ y
by_call x y p = ap (λ a. call_with a x.args) p.0 ∙ ap (call_with y.name) p.1

calls_same : ValuesSame → (x y : MethodCall) → Decides (call_eq.eq-value.it x y) (x ≡ y)
calls_same e x y = decided_alike (by_call x y) (λ p. (ap (λ c. c.name) p, ap (λ c. c.args) p))
    (both_decided _ _ (names_same x.name y.name) (lists_same e x.args y.args))

abbrev options_with : Option Value → Option Value → Option Value → ByteInnerNewOptions
options_with source encoding errors = record { source = source; encoding = encoding; errors = errors }

by_options : (x y : ByteInnerNewOptions) → (x.source ≡ y.source) × ((x.encoding ≡ y.encoding) × (x.errors ≡ y.errors)) → x ≡ y
by_options x y p =
    ap (λ a. options_with a x.encoding x.errors) p.0 ∙ ap (λ a. options_with y.source a x.errors) p.1.0
    ∙ ap (options_with y.source y.encoding) p.1.1

options_same : ValuesSame → (x y : ByteInnerNewOptions) → Decides (options_eq.eq-value.it x y) (x ≡ y)
options_same e x y = decided_alike (by_options x y) (λ p. (ap (λ c. c.source) p, (ap (λ c. c.encoding) p, ap (λ c. c.errors) p)))
    (both_decided _ _ (maybes_same e x.source y.source) (both_decided _ _ (maybes_same e x.encoding y.encoding) (maybes_same e x.errors y.errors)))

-- ---- what a command asks

verb_itself : ValuesSame → (x : Verb) → verb_eq.eq-value.it x x ≡ true
verb_itself e verb.View = refl
verb_itself e (verb.Range a b) = both_hold _ _ ((e a a).1 refl) ((e b b).1 refl)
verb_itself e (verb.Get a) = (e a a).1 refl
verb_itself e (verb.Set a b) = both_hold _ _ ((e a a).1 refl) ((e b b).1 refl)
verb_itself e (verb.Cast a b) = both_hold _ _ ((e a a).1 refl) ((maybes_same e b b).1 refl)
verb_itself e (verb.CastF a b) = both_hold _ _ ((e a a).1 refl) ((e b b).1 refl)
verb_itself e (verb.ToBytes a) = (maybes_same e a a).1 refl
verb_itself e verb.Release = refl
verb_itself e verb.Enter = refl
verb_itself e verb.Exit = refl
verb_itself e verb.ToContiguous = refl
verb_itself e verb.ToList = refl
verb_itself e verb.Len = refl
verb_itself e (verb.Property a) = (properties_same a a).1 refl
verb_itself e verb.ToReadonly = refl
verb_itself e (verb.Del a) = (e a a).1 refl
verb_itself e (verb.Append a) = (e a a).1 refl
verb_itself e (verb.Extend a) = (e a a).1 refl
verb_itself e (verb.Insert a b) = both_hold _ _ ((e a a).1 refl) ((e b b).1 refl)
verb_itself e (verb.Pop a) = (maybes_same e a a).1 refl
verb_itself e (verb.Remove a) = (e a a).1 refl
verb_itself e verb.Clear = refl
verb_itself e verb.Reverse = refl
verb_itself e (verb.IAdd a) = (e a a).1 refl
verb_itself e (verb.IMul a) = (e a a).1 refl
verb_itself e (verb.Init a) = (options_same e a a).1 refl
verb_itself e verb.Take = refl
verb_itself e verb.Copy = refl
verb_itself e (verb.Compare a b) = both_hold _ _ ((ops_same a a).1 refl) ((e b b).1 refl)
verb_itself e verb.Hash = refl
verb_itself e verb.Repr = refl
verb_itself e verb.Iter = refl
verb_itself e verb.Next = refl
verb_itself e verb.LengthHint = refl
verb_itself e (verb.SetState a) = (e a a).1 refl
verb_itself e (verb.Contains a) = (e a a).1 refl
verb_itself e (verb.Hex a b) = both_hold _ _ ((maybes_same e a a).1 refl) ((maybes_same e b b).1 refl)
verb_itself e (verb.Call a) = (calls_same e a a).1 refl

from_verb : ValuesSame → (x y : Verb) → verb_eq.eq-value.it x y ≡ true → x ≡ y
from_verb e verb.View verb.View h = refl
from_verb e (verb.Range a b) (verb.Range c d) h =
    ap (λ v. verb.Range v b) ((e a c).0 (both_of _ _ h).0) ∙ ap (verb.Range c) ((e b d).0 (both_of _ _ h).1)
from_verb e (verb.Get a) (verb.Get c) h = ap verb.Get ((e a c).0 h)
from_verb e (verb.Set a b) (verb.Set c d) h =
    ap (λ v. verb.Set v b) ((e a c).0 (both_of _ _ h).0) ∙ ap (verb.Set c) ((e b d).0 (both_of _ _ h).1)
from_verb e (verb.Cast a b) (verb.Cast c d) h =
    ap (λ v. verb.Cast v b) ((e a c).0 (both_of _ _ h).0) ∙ ap (verb.Cast c) ((maybes_same e b d).0 (both_of _ _ h).1)
from_verb e (verb.CastF a b) (verb.CastF c d) h =
    ap (λ v. verb.CastF v b) ((e a c).0 (both_of _ _ h).0) ∙ ap (verb.CastF c) ((e b d).0 (both_of _ _ h).1)
from_verb e (verb.ToBytes a) (verb.ToBytes c) h = ap verb.ToBytes ((maybes_same e a c).0 h)
from_verb e verb.Release verb.Release h = refl
from_verb e verb.Enter verb.Enter h = refl
from_verb e verb.Exit verb.Exit h = refl
from_verb e verb.ToContiguous verb.ToContiguous h = refl
from_verb e verb.ToList verb.ToList h = refl
from_verb e verb.Len verb.Len h = refl
from_verb e (verb.Property a) (verb.Property c) h = ap verb.Property ((properties_same a c).0 h)
from_verb e verb.ToReadonly verb.ToReadonly h = refl
from_verb e (verb.Del a) (verb.Del c) h = ap verb.Del ((e a c).0 h)
from_verb e (verb.Append a) (verb.Append c) h = ap verb.Append ((e a c).0 h)
from_verb e (verb.Extend a) (verb.Extend c) h = ap verb.Extend ((e a c).0 h)
from_verb e (verb.Insert a b) (verb.Insert c d) h =
    ap (λ v. verb.Insert v b) ((e a c).0 (both_of _ _ h).0) ∙ ap (verb.Insert c) ((e b d).0 (both_of _ _ h).1)
from_verb e (verb.Pop a) (verb.Pop c) h = ap verb.Pop ((maybes_same e a c).0 h)
from_verb e (verb.Remove a) (verb.Remove c) h = ap verb.Remove ((e a c).0 h)
from_verb e verb.Clear verb.Clear h = refl
from_verb e verb.Reverse verb.Reverse h = refl
from_verb e (verb.IAdd a) (verb.IAdd c) h = ap verb.IAdd ((e a c).0 h)
from_verb e (verb.IMul a) (verb.IMul c) h = ap verb.IMul ((e a c).0 h)
from_verb e (verb.Init a) (verb.Init c) h = ap verb.Init ((options_same e a c).0 h)
from_verb e verb.Take verb.Take h = refl
from_verb e verb.Copy verb.Copy h = refl
from_verb e (verb.Compare a b) (verb.Compare c d) h =
    ap (λ v. verb.Compare v b) ((ops_same a c).0 (both_of _ _ h).0) ∙ ap (verb.Compare c) ((e b d).0 (both_of _ _ h).1)
from_verb e verb.Hash verb.Hash h = refl
from_verb e verb.Repr verb.Repr h = refl
from_verb e verb.Iter verb.Iter h = refl
from_verb e verb.Next verb.Next h = refl
from_verb e verb.LengthHint verb.LengthHint h = refl
from_verb e (verb.SetState a) (verb.SetState c) h = ap verb.SetState ((e a c).0 h)
from_verb e (verb.Contains a) (verb.Contains c) h = ap verb.Contains ((e a c).0 h)
from_verb e (verb.Hex a b) (verb.Hex c d) h =
    ap (λ v. verb.Hex v b) ((maybes_same e a c).0 (both_of _ _ h).0) ∙ ap (verb.Hex c) ((maybes_same e b d).0 (both_of _ _ h).1)
from_verb e (verb.Call a) (verb.Call c) h = ap verb.Call ((calls_same e a c).0 h)
from_verb e _ _ h = absurd (false≢true h)

verbs_same : ValuesSame → (x y : Verb) → Decides (verb_eq.eq-value.it x y) (x ≡ y)
verbs_same e = decided verb_eq.eq-value.it (verb_itself e) (from_verb e)

subject_itself : (x : Subject) → subject_eq.eq-value.it x x ≡ true
subject_itself subject.Own = refl
subject_itself (subject.View n) = (Decides-eqb n n).1 refl
subject_itself (subject.Iter n) = (Decides-eqb n n).1 refl

from_subject : (x y : Subject) → subject_eq.eq-value.it x y ≡ true → x ≡ y
from_subject subject.Own subject.Own h = refl
from_subject (subject.View m) (subject.View n) h = ap subject.View ((Decides-eqb m n).0 h)
from_subject (subject.Iter m) (subject.Iter n) h = ap subject.Iter ((Decides-eqb m n).0 h)
from_subject _ _ h = absurd (false≢true h)

-- ---- what is lent

loan_itself : EqualExactly → (x : Loan) → loan_eq.eq-value.it x x ≡ true
loan_itself e loan.Own = refl
loan_itself e (loan.View n) = (Decides-eqb n n).1 refl
loan_itself e (loan.Iter n) = (Decides-eqb n n).1 refl
loan_itself e (loan.Other snap) = (e.snaps snap snap).1 refl
loan_itself e loan.Missing = refl

from_loan : EqualExactly → (x y : Loan) → loan_eq.eq-value.it x y ≡ true → x ≡ y
from_loan e loan.Own loan.Own h = refl
from_loan e (loan.View m) (loan.View n) h = ap loan.View ((Decides-eqb m n).0 h)
from_loan e (loan.Iter m) (loan.Iter n) h = ap loan.Iter ((Decides-eqb m n).0 h)
from_loan e (loan.Other x) (loan.Other y) h = ap loan.Other ((e.snaps x y).0 h)
from_loan e loan.Missing loan.Missing h = refl
from_loan e _ _ h = absurd (false≢true h)

by_pair : (x y : ℕ × Loan) → (x.0 ≡ y.0) × (x.1 ≡ y.1) → x ≡ y
by_pair x y p = ap (λ a. (a, x.1)) p.0 ∙ ap (λ a. (y.0, a)) p.1

pairs_same : EqualExactly → (x y : ℕ × Loan) → Decides (equal_pairs x y) (x ≡ y)
pairs_same e x y = decided_alike (by_pair x y) (λ p. (ap (λ c. c.0) p, ap (λ c. c.1) p))
    (both_decided _ _ (Decides-eqb x.0 y.0) (decided loan_eq.eq-value.it (loan_itself e) (from_loan e) x.1 y.1))

loans_same : EqualExactly → (xs ys : List (ℕ × Loan)) → Decides (pointwise equal_pairs xs ys) (xs ≡ ys)
loans_same e xs ys = slice_eq-Decides (pairs_same e) xs ys (pointwise equal_pairs xs ys) refl

-- ---- commands

abbrev command_with : Subject → Verb → List (ℕ × Loan) → LocalCommand
command_with subject verb loans = record { subject = subject; verb = verb; loans = loans }

by_command : (x y : LocalCommand) → (x.subject ≡ y.subject) × ((x.verb ≡ y.verb) × (x.loans ≡ y.loans)) → x ≡ y
by_command x y p =
    ap (λ a. command_with a x.verb x.loans) p.0 ∙ ap (λ a. command_with y.subject a x.loans) p.1.0
    ∙ ap (command_with y.subject y.verb) p.1.1

pub commands_same : EqualExactly → EqualCommandsAreTheSame
commands_same e x y = decided_alike (by_command x y) (λ p. (ap (λ c. c.subject) p, (ap (λ c. c.verb) p, ap (λ c. c.loans) p)))
    (both_decided _ _ (decided subject_eq.eq-value.it subject_itself from_subject x.subject y.subject)
    (both_decided _ _ (verbs_same e.values x.verb y.verb) (loans_same e x.loans y.loans)))
