-- Sources and sinks in memory, which fail at the calls that they are told.
use Rattle.std.specs.Prelude.{ℕ, ◌==◌, ◌+◌, ◌-◌, ◌^◌, min, Bool, List}
use Rattle.std.specs.List.{list_any}

-- A device in memory. It has its bytes (those that are left in a source, or those that were put into a sink),
-- how many of them one call moves at most, the numbers of the calls that fail, how many calls there were, and
-- how many of these failed. Calls are numbered from 0.
pub record Failing : Type 0 where
  pub bytes : List ℕ
  pub most : ℕ
  pub failing : List ℕ
  pub calls : ℕ
  pub faults : ℕ

-- Whether the next call fails. Its number is the count of the calls before it.
abbrev pub fails_next : Failing → Bool
fails_next device = list_any (λ number. number == device.calls) device.failing

-- a count after one more, which stays at the greatest number of its type
abbrev pub one_more : ℕ → ℕ
one_more count = min (count + 1) (2 ^ 64 - 1)

-- the device after a call that failed
abbrev pub after_fault : Failing → Failing
after_fault device =
    record {
      bytes = device.bytes;
      most = device.most;
      failing = device.failing;
      calls = one_more device.calls;
      faults = one_more device.faults;
    }

-- the device after a call that didn't fail, with the bytes that this call left
abbrev pub with_bytes : Failing → List ℕ → Failing
with_bytes device bytes =
    record {
      bytes = bytes;
      most = device.most;
      failing = device.failing;
      calls = one_more device.calls;
      faults = device.faults;
    }
