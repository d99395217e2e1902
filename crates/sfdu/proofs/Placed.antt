-- Relations between the offsets and lengths of a kind: one record of facts that holds for both kinds. Assumes nothing.
use Prim.Native.Nat.{◌+◌, ◌-◌, ◌≤◌}
use mathlib.Core.Path.{◌≡◌, refl}
use lib.Dec.{lit≤}
use Rattle.sfdu.specs.declared.Kind.{Kind}
use Rattle.sfdu.specs.declared.Kind.TheVariants.{Telemetry, Rsr}
use Rattle.sfdu.specs.Nesting.{
  label_size,
  primary_at,
  secondary_value_at,
  data_at,
  data_value_at,
  block_label_size,
  aggregation_length,
  secondary_length,
  least_label_length,
  most_label_length,
  most_data,
  secondary_type,
}

pub record Placed (k : Kind) : Type 0 where
  pub data-at : data_at k ≡ secondary_value_at + secondary_length k
  pub data-value-at : data_value_at k ≡ data_at k + block_label_size
  pub aggregation-length : aggregation_length k ≡ data_at k - primary_at
  pub least-length : least_label_length k ≡ data_value_at k - label_size
  pub most-length : most_label_length k ≡ least_label_length k + most_data
  pub least-secondary : 80 ≤ secondary_length k
  pub most-secondary : secondary_length k ≤ 220
  pub small-type : secondary_type k ≤ 104

pub placed : (k : Kind) → Placed k
placed Telemetry =
    record {
      data-at = refl;
      data-value-at = refl;
      aggregation-length = refl;
      least-length = refl;
      most-length = refl;
      least-secondary = lit≤ tt;
      most-secondary = lit≤ tt;
      small-type = lit≤ tt;
    }
placed Rsr =
    record {
      data-at = refl;
      data-value-at = refl;
      aggregation-length = refl;
      least-length = refl;
      most-length = refl;
      least-secondary = lit≤ tt;
      most-secondary = lit≤ tt;
      small-type = lit≤ tt;
    }
