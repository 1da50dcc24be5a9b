-- The worked examples: each is computed from the definitions.
use Rattle.std.proofs.Common.{refl}
use Rattle.cases.specs.Examples.{at2000, one_speed}
use Rattle.cases.specs.Table.{WorkedCalls, WorkedExamples}
use Rattle.cases.proofs.Adding.{adds}
use Rattle.cases.proofs.FiveShots.{costs, fall_1000, fall_2000, fall_3000, two, not_best, lays, moves, proves, keeps, unsettles, moves_to_level}
use Rattle.cases.proofs.OneSpeed.{refuses, lays_level, proves_level, mounts_at_0, mounts_at_10}

pub worked : WorkedExamples
worked = record {
  level_line_costs_40 = costs;
  fall_at_1000_is_0 = fall_1000;
  fall_at_2000_is_below_0 = fall_2000;
  fall_at_3000_is_0 = fall_3000;
  level_line_has_two_speeds = two;
  level_line_is_not_cheapest = not_best;
}

pub worked_calls : WorkedCalls
worked_calls = record {
  first_pivot_lays = lays;
  second_pivot_moves = moves;
  third_pivot_proves = proves;
  strike_after_which_it_is_still_best_leaves_it_in_force = keeps;
  strike_after_which_a_cheaper_line_exists_leaves_it_trying = unsettles;
  pivot_after_that_strike_moves_to_the_level_line = moves_to_level;
  pivot_refuses_one_speed = refuses;
  one_speed_is_refused_by_number_7 = refl;
  add_of_another_speed_leaves_the_sheet_bare = adds one_speed at2000 refl;
  pivot_then_lays_the_level_line = lays_level;
  pivot_then_proves_the_level_line = proves_level;
  mount_at_even_prices_takes_the_lower_lead = mounts_at_0;
  mount_where_late_costs_3_takes_the_higher_lead = mounts_at_10;
}
