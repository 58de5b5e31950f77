-- How many arguments each method takes.
use Rattle.std.specs.Prelude.{ℕ, Bool, ◌&&◌, nat_le}
use Rattle.pybuf_command.specs.declared.methods.MethodName.{MethodName}
use Rattle.pybuf_command.specs.declared.methods.MethodName.TheVariants as name

-- the least number of arguments that a method takes
abbrev pub fewest : MethodName → ℕ
fewest name.Add = 1
fewest name.Concat = 1
fewest name.Mul = 1
fewest name.FromHex = 1
fewest name.Center = 1
fewest name.LJust = 1
fewest name.RJust = 1
fewest name.Find = 1
fewest name.RFind = 1
fewest name.Index = 1
fewest name.RIndex = 1
fewest name.Count = 1
fewest name.StartsWith = 1
fewest name.EndsWith = 1
fewest name.Join = 1
fewest name.Translate = 1
fewest name.RemovePrefix = 1
fewest name.RemoveSuffix = 1
fewest name.Partition = 1
fewest name.RPartition = 1
fewest name.ZFill = 1
fewest name.MakeTrans = 2
fewest name.Replace = 2
fewest _ = 0

-- the greatest number of arguments that a method takes
abbrev pub most : MethodName → ℕ
most name.Add = 1
most name.Concat = 1
most name.Mul = 1
most name.FromHex = 1
most name.Join = 1
most name.Strip = 1
most name.LStrip = 1
most name.RStrip = 1
most name.RemovePrefix = 1
most name.RemoveSuffix = 1
most name.Partition = 1
most name.RPartition = 1
most name.ExpandTabs = 1
most name.SplitLines = 1
most name.ZFill = 1
most name.Hex = 2
most name.Center = 2
most name.LJust = 2
most name.RJust = 2
most name.MakeTrans = 2
most name.Translate = 2
most name.Split = 2
most name.RSplit = 2
most name.Decode = 2
most name.Find = 3
most name.RFind = 3
most name.Index = 3
most name.RIndex = 3
most name.Count = 3
most name.StartsWith = 3
most name.EndsWith = 3
most name.Replace = 3
most _ = 0

-- whether a method takes this number of arguments
abbrev pub takes : MethodName → ℕ → Bool
takes name count = nat_le (fewest name) count && nat_le count (most name)
