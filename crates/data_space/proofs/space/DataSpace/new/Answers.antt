use Rattle.data_space.proofs.space.DataSpace.new.Goals as goal

pub returns : goal.returns
returns c = record { zero = c.in_ok-vec.ensures.items_if_clones_equal (λ y h. h) }
