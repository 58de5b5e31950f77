-- What each method answers, by its name.
use Rattle.std.specs.Prelude.{ℕ, List, Result}
use Rattle.std.specs.Char.{is_ascii_alphabetic, is_ascii_alphanumeric, is_ascii_digit, is_ascii_lowercase, is_ascii_uppercase}
use Rattle.pybuf_value.specs.declared.faults.Fault.{Fault}
use Rattle.pybuf_value.specs.declared.snaps.Snap.{Snap}
use Rattle.pybuf_value.specs.declared.values.Value.{Value}
use Rattle.pybuf_value.specs.Texts.{is_ascii}
use Rattle.pybuf_search.specs.Ends.{without_prefix, without_suffix}
use Rattle.pybuf_search.specs.Places.{first_place, last_place}
use Rattle.pybuf_letters.specs.Cases.{lower, upper, swapcase, capitalize, title}
use Rattle.pybuf_letters.specs.Classes.{all_of, all_in_case, is_blank, is_title}
use Rattle.pybuf_letters.specs.Strips.{stripped, stripped_left, stripped_right}
use Rattle.pybuf_shaping.specs.Padding.{centered, justified_left, justified_right}
use Rattle.pybuf_bytes.specs.Searching.{split_of, rsplit_of}
use Rattle.pybuf_command.specs.declared.methods.MethodName.{MethodName}
use Rattle.pybuf_command.specs.declared.methods.MethodName.TheVariants as name
use Rattle.pybuf_bytes.specs.declared.methods.MethodReply.{MethodReply}
use Rattle.pybuf_methods.specs.Plain as plain
use Rattle.pybuf_methods.specs.Sought as sought
use Rattle.pybuf_methods.specs.Shaped as shaped
use Rattle.pybuf_methods.specs.Cut as cut

-- The reply is decided by what the handles name, by the bytes, by the method's name, and by its arguments.
abbrev pub method_reply : List (ℕ × Snap) → List ℕ → MethodName → List Value → Result MethodReply Fault
method_reply pairs bytes name.Add args = plain.add pairs bytes args
method_reply pairs bytes name.Concat args = plain.concat pairs bytes args
method_reply pairs bytes name.Mul args = plain.mul bytes args
method_reply pairs bytes name.IsAlnum args = plain.truth (all_of is_ascii_alphanumeric bytes) args
method_reply pairs bytes name.IsAlpha args = plain.truth (all_of is_ascii_alphabetic bytes) args
method_reply pairs bytes name.IsAscii args = plain.truth (is_ascii bytes) args
method_reply pairs bytes name.IsDigit args = plain.truth (all_of is_ascii_digit bytes) args
method_reply pairs bytes name.IsLower args = plain.truth (all_in_case is_ascii_lowercase is_ascii_uppercase bytes) args
method_reply pairs bytes name.IsSpace args = plain.truth (all_of is_blank bytes) args
method_reply pairs bytes name.IsTitle args = plain.truth (is_title bytes) args
method_reply pairs bytes name.IsUpper args = plain.truth (all_in_case is_ascii_uppercase is_ascii_lowercase bytes) args
method_reply pairs bytes name.Lower args = plain.changed (lower bytes) args
method_reply pairs bytes name.Upper args = plain.changed (upper bytes) args
method_reply pairs bytes name.SwapCase args = plain.changed (swapcase bytes) args
method_reply pairs bytes name.Capitalize args = plain.changed (capitalize bytes) args
method_reply pairs bytes name.Title args = plain.changed (title bytes) args
method_reply pairs bytes name.Hex args = shaped.hex pairs bytes args
method_reply pairs bytes name.FromHex args = shaped.fromhex args
method_reply pairs bytes name.Center args = shaped.padded centered pairs bytes args
method_reply pairs bytes name.LJust args = shaped.padded justified_left pairs bytes args
method_reply pairs bytes name.RJust args = shaped.padded justified_right pairs bytes args
method_reply pairs bytes name.Find args = sought.find first_place pairs bytes args
method_reply pairs bytes name.RFind args = sought.find last_place pairs bytes args
method_reply pairs bytes name.Index args = sought.index first_place pairs bytes args
method_reply pairs bytes name.RIndex args = sought.index last_place pairs bytes args
method_reply pairs bytes name.Count args = sought.count pairs bytes args
method_reply pairs bytes name.StartsWith args = sought.startswith pairs bytes args
method_reply pairs bytes name.EndsWith args = sought.endswith pairs bytes args
method_reply pairs bytes name.Join args = plain.join pairs bytes args
method_reply pairs bytes name.MakeTrans args = shaped.maketrans pairs args
method_reply pairs bytes name.Translate args = shaped.translate pairs bytes args
method_reply pairs bytes name.Strip args = cut.strip stripped pairs bytes args
method_reply pairs bytes name.LStrip args = cut.strip stripped_left pairs bytes args
method_reply pairs bytes name.RStrip args = cut.strip stripped_right pairs bytes args
method_reply pairs bytes name.RemovePrefix args = cut.remove without_prefix pairs bytes args
method_reply pairs bytes name.RemoveSuffix args = cut.remove without_suffix pairs bytes args
method_reply pairs bytes name.Split args = cut.split split_of pairs bytes args
method_reply pairs bytes name.RSplit args = cut.split rsplit_of pairs bytes args
method_reply pairs bytes name.Partition args = cut.partition pairs bytes args
method_reply pairs bytes name.RPartition args = cut.rpartition pairs bytes args
method_reply pairs bytes name.ExpandTabs args = shaped.expandtabs bytes args
method_reply pairs bytes name.SplitLines args = cut.splitlines bytes args
method_reply pairs bytes name.ZFill args = shaped.zfill bytes args
method_reply pairs bytes name.Replace args = shaped.replace pairs bytes args
method_reply pairs bytes name.Decode args = shaped.decode bytes args
