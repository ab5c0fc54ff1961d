use Rattle.top_cell.proofs.steps.begin.Given as goal

abbrev pub ghosts-begin_write : goal.ghosts-begin_write
ghosts-begin_write g a = record { words = a.words.now }
