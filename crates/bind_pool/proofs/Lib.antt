mod Index
