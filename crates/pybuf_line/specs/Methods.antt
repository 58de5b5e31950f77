-- The methods of strings of bytes that lines can call. As for the words, a function gives the text of each
-- method, and a list has all of them.
use Rattle.std.specs.Prelude.{ℕ, List, [], ◌∷◌, codes, Option}
use Rattle.pybuf_command.specs.declared.methods.MethodName.{MethodName}
use Rattle.pybuf_command.specs.declared.methods.MethodName.TheVariants as name
use Rattle.pybuf_line.specs.Words.{named_in}

-- the names of methods
abbrev pub written_method : MethodName → List ℕ
written_method name.Add = codes "add"
written_method name.Concat = codes "concat"
written_method name.Mul = codes "mul"
written_method name.IsAlnum = codes "isalnum"
written_method name.IsAlpha = codes "isalpha"
written_method name.IsAscii = codes "isascii"
written_method name.IsDigit = codes "isdigit"
written_method name.IsLower = codes "islower"
written_method name.IsSpace = codes "isspace"
written_method name.IsTitle = codes "istitle"
written_method name.IsUpper = codes "isupper"
written_method name.Lower = codes "lower"
written_method name.Upper = codes "upper"
written_method name.SwapCase = codes "swapcase"
written_method name.Capitalize = codes "capitalize"
written_method name.Title = codes "title"
written_method name.Hex = codes "hex"
written_method name.FromHex = codes "fromhex"
written_method name.Center = codes "center"
written_method name.LJust = codes "ljust"
written_method name.RJust = codes "rjust"
written_method name.Find = codes "find"
written_method name.RFind = codes "rfind"
written_method name.Index = codes "index"
written_method name.RIndex = codes "rindex"
written_method name.Count = codes "count"
written_method name.StartsWith = codes "startswith"
written_method name.EndsWith = codes "endswith"
written_method name.Join = codes "join"
written_method name.MakeTrans = codes "maketrans"
written_method name.Translate = codes "translate"
written_method name.Strip = codes "strip"
written_method name.LStrip = codes "lstrip"
written_method name.RStrip = codes "rstrip"
written_method name.RemovePrefix = codes "removeprefix"
written_method name.RemoveSuffix = codes "removesuffix"
written_method name.Split = codes "split"
written_method name.RSplit = codes "rsplit"
written_method name.Partition = codes "partition"
written_method name.RPartition = codes "rpartition"
written_method name.ExpandTabs = codes "expandtabs"
written_method name.SplitLines = codes "splitlines"
written_method name.ZFill = codes "zfill"
written_method name.Replace = codes "replace"
written_method name.Decode = codes "decode"

abbrev pub every_search_or_cut : List MethodName
every_search_or_cut =
    name.Find ∷ name.RFind ∷ name.Index ∷ name.RIndex ∷ name.Count ∷ name.StartsWith ∷ name.EndsWith ∷ name.Strip
    ∷ name.LStrip ∷ name.RStrip ∷ name.RemovePrefix ∷ name.RemoveSuffix ∷ name.Split ∷ name.RSplit ∷ name.Partition
    ∷ name.RPartition ∷ name.SplitLines ∷ []

abbrev pub every_method : List MethodName
every_method =
    name.Add ∷ name.Concat ∷ name.Mul ∷ name.IsAlnum ∷ name.IsAlpha ∷ name.IsAscii ∷ name.IsDigit ∷ name.IsLower
    ∷ name.IsSpace ∷ name.IsTitle ∷ name.IsUpper ∷ name.Lower ∷ name.Upper ∷ name.SwapCase ∷ name.Capitalize
    ∷ name.Title ∷ name.Hex ∷ name.FromHex ∷ name.Center ∷ name.LJust ∷ name.RJust ∷ name.Join ∷ name.MakeTrans
    ∷ name.Translate ∷ name.ExpandTabs ∷ name.ZFill ∷ name.Replace ∷ name.Decode ∷ every_search_or_cut

-- the method that a text names
unfoldable pub method_in : List ℕ → Option MethodName
method_in text = named_in written_method every_method text
